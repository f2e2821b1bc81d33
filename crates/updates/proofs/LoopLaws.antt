-- One row more, where copies are stamped.
use Rattle.std.proofs.Common.{◌≡◌, ℕ, suc, ◌+◌, ◌*◌, ◌<◌, ◌≤◌, List, [], ◌∷◌, ◌++◌, None, length, map, get_or, drop, append_assoc, length-drop, add-one, refl, sym, ap, subst, ◌∙◌, arith}
use Rattle.std.proofs.Math.Seq.{drop-cons}
use Rattle.list_laws.proofs.PartLaws.{drop_more_read}
use Rattle.updates.specs.Types.{Oid, Label, Edge, Value}
use Rattle.lore_base.specs.Walks.{oid_of, edge_of}
use Rattle.oem_text.specs.Literals.{numbered}
use Rattle.updates.specs.Effects.{Pair, targets}
use Rattle.updates.specs.inside.Stamps.{moved, stamped_objects, stamped_edges}

pub objects_more : (made added whole : List (Oid × Value)) (base size : ℕ) (values : List Value) (rows : List Pair) (i : ℕ)
    → i < length rows → size ≡ length values → added ≡ made ++ numbered base values
    → made ++ stamped_objects base values (targets (drop i rows)) ≡ whole
    → added ++ stamped_objects (base + size) values (targets (drop (i + 1) rows)) ≡ whole
objects_more made added whole base size values rows i low count more before =
    let left = drop-cons rows i (oid_of 0, None) low ∙ ap (λ (n : ℕ). get_or rows i (oid_of 0, None) ∷ drop n rows) (sym (add-one i)) in
    let rest = stamped_objects (base + length values) values (targets (drop (i + 1) rows)) in
    ap (λ (l : List (Oid × Value)). l ++ stamped_objects (base + size) values (targets (drop (i + 1) rows))) more
    ∙ ap (λ (n : ℕ). (made ++ numbered base values) ++ stamped_objects (base + n) values (targets (drop (i + 1) rows))) count
    ∙ append_assoc made (numbered base values) rest
    ∙ ap (λ (l : List Pair). made ++ stamped_objects base values (targets l)) (sym left)
    ∙ before

pub edges_more : (made rooted added whole : List Edge) (base size : ℕ) (label : Label) (edges : List Edge) (rows : List Pair) (i : ℕ) (row : Pair)
    → i < length rows → row ≡ get_or rows i row → rooted ≡ made ++ edge_of row.0 label (oid_of base) ∷ [] → added ≡ rooted ++ map (moved base) edges
    → made ++ stamped_edges base size label edges (targets (drop i rows)) ≡ whole
    → added ++ stamped_edges (base + size) size label edges (targets (drop (i + 1) rows)) ≡ whole
edges_more made rooted added whole base size label edges rows i row low is root more before =
    let first = edge_of row.0 label (oid_of base) in
    let own = map (moved base) edges in
    let rest = stamped_edges (base + size) size label edges (targets (drop (i + 1) rows)) in
    ap (λ (l : List Edge). l ++ rest) (more ∙ ap (λ (l : List Edge). l ++ own) root)
    ∙ ap (λ (l : List Edge). l ++ rest) (append_assoc made (first ∷ []) own)
    ∙ append_assoc made (first ∷ own) rest
    ∙ ap (λ (l : List Pair). made ++ stamped_edges base size label edges (targets l)) (sym (drop_more_read rows i row low is))
    ∙ before

-- and room is left for the copies of the others
pub room_more : (rows : List Pair) (i base size limit : ℕ) → i < length rows → base + length (drop i rows) * size ≤ limit
    → (base + size) + length (drop (i + 1) rows) * size ≤ limit
room_more rows i base size limit low room =
    let now = length-drop i rows in
    let next = length-drop (i + 1) rows in
    let one : length (drop i rows) ≡ suc (length (drop (i + 1) rows)) = omega (arith, now, next, low) in
    let split : suc (length (drop (i + 1) rows)) * size ≡ size + length (drop (i + 1) rows) * size = omega arith in
    let same = ap (λ (n : ℕ). n * size) one in
    omega (arith, room, same, split)

pub room_here : (rows : List Pair) (i base size limit : ℕ) → i < length rows → base + length (drop i rows) * size ≤ limit → base + size ≤ limit
room_here rows i base size limit low room =
    let after = room_more rows i base size limit low room in
    omega (arith, after)
