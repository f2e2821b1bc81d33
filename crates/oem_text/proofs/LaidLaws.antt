-- A literal whose locals have their places, laid out; and its objects and edges as they get their numbers one by one.
use Rattle.std.proofs.Common.{Option, ◌≡◌, ℕ, ◌+◌, ◌<◌, ◌≤◌, List, [], ◌∷◌, ◌++◌, length, map, take, drop, get_or, All, Contains, sym, ap, subst, ◌∙◌, arith, append_assoc, append-nil, length-append}
use Rattle.std.proofs.lemmas.List.{length-map, drop_more, take_more, take_all, get_or-map, map_push, map-append, take-append-drop}
use Rattle.std.proofs.lemmas.List.Elements.{All-get_or}
use Rattle.list_laws.proofs.PartLaws.{map-map}
use denote.Ref.{Bor}
use Rattle.oem_text.specs.Types.{Oid, Label, Edge, Value, LABELS}
use Rattle.lore_base.specs.Walks.{oid_of, edge_of}
use Rattle.lorel_trees.specs.Trees.{LiteralTree, local, literal_tree}
use Rattle.lorel_trees.specs.declared.literals.Literal.{Literal}
use Rattle.oem_labels.specs.Labels.{first_uses, label_in}
use Rattle.oem_text.specs.declared.flat.Link.{Link}
use Rattle.oem_text.specs.Literals.{Body, bodies, arcs_of, numbered}
use Rattle.oem_text.specs.Layouts.{PlacedArc, LaidOut, JoinsBelow, IsJoined, layout_of, placed_arc, edge_from, NumberedTexts, table_of, with_texts, count_with}
use Rattle.oem_text.specs.inside.Views.{body_of, bodies_of, link_arcs, placed_of, laid_out}
use Rattle.oem_text.specs.inside.Places.{ArePlaces, IsFound}
use Rattle.oem_text.proofs.BoundLaws.{joined, some_body}
use Rattle.oem_text.proofs.NumberLaws.{label_in-append, table-with, with_texts-append, has_text, count-then, count-front}

-- ---- all locals have places
placed_all : (literal : LiteralTree) (places : ℕ → Option ℕ) (links placed : List Link) → link_arcs links ≡ arcs_of literal → ArePlaces (bodies literal) places
    → ((xs : List Body) → ArePlaces xs places → map placed_of placed ≡ map (placed_arc xs) (link_arcs links)) → map placed_of placed ≡ map (placed_arc (bodies literal)) (arcs_of literal)
placed_all literal places links placed arcs are all = all (bodies literal) are ∙ ap (map (placed_arc (bodies literal))) arcs

pub laid_same : (literal : LiteralTree) (places : ℕ → Option ℕ) (literals : List (Bor Literal)) (links placed shown : List Link) → bodies_of literals ≡ bodies literal
    → link_arcs links ≡ arcs_of literal → ArePlaces (bodies literal) places
    → ((xs : List Body) → ArePlaces xs places → map placed_of placed ≡ map (placed_arc xs) (link_arcs links)) → shown ≡ placed → laid_out literals shown ≡ layout_of literal
laid_same literal places literals links placed shown same arcs are all is =
    ap (λ (l : List Link). laid_out literals l) is
    ∙ ap (λ (xs : List Body). let made : LaidOut = record { values = map (λ (body : Body). body.value) xs; arcs = map placed_of placed } in made) same
    ∙ ap (λ (l : List PlacedArc). let made : LaidOut = record { values = map (λ (body : Body). body.value) (bodies literal); arcs = l } in made)
    (placed_all literal places links placed arcs are all)

pub laid_joined : (literal : LiteralTree) (places : ℕ → Option ℕ) → ((number : ℕ) → literal ≡ local number → ⊥) → ArePlaces (bodies literal) places
    → All (IsFound places) (arcs_of literal) → IsJoined (layout_of literal)
laid_joined literal places other are found =
    let size = length-map (bodies literal) (λ (body : Body). body.value) in
    let some = some_body literal other in
    record {
      some = omega (arith, size, some);
      joined = subst (λ (n : ℕ). All (JoinsBelow n) (map (placed_arc (bodies literal)) (arcs_of literal))) (sym size) (joined literal places are found);
    }

-- ---- one object more has its number
pub value_here : (literals : List (Bor Literal)) (values : List Value) (i : ℕ) (literal : Bor Literal) → map (λ (body : Body). body.value) (bodies_of literals) ≡ values → i < length literals
    → literal ≡ get_or literals i literal → drop i values ≡ (body_of (literal_tree literal.now)).value ∷ drop (i + 1) values
value_here literals values i literal is low here =
    let value : Bor Literal → Value = λ (l : Bor Literal). (body_of (literal_tree l.now)).value in
    let all : map value literals ≡ values = sym (map-map (λ (l : Bor Literal). body_of (literal_tree l.now)) (λ (body : Body). body.value) literals) ∙ is in
    let size = length-map literals value in
    let read : get_or (map value literals) i (value literal) ≡ value literal = get_or-map value literals i literal (value literal) low ∙ ap value (sym here) in
    ap (drop i) (sym all) ∙ drop_more (map value literals) i (value literal) (omega (arith, size, low))
    ∙ ap (λ (v : Value). v ∷ drop (i + 1) (map value literals)) read ∙ ap (λ (l : List Value). value literal ∷ drop (i + 1) l) all

pub object_more : (before after whole : List (Oid × Value)) (number i : ℕ) (values : List Value) (value : Value) → drop i values ≡ value ∷ drop (i + 1) values
    → after ≡ before ++ (oid_of number, value) ∷ [] → before ++ numbered number (drop i values) ≡ whole → after ++ numbered (number + 1) (drop (i + 1) values) ≡ whole
object_more before after whole number i values value next step all =
    ap (λ (l : List (Oid × Value)). l ++ numbered (number + 1) (drop (i + 1) values)) step
    ∙ append_assoc before ((oid_of number, value) ∷ []) (numbered (number + 1) (drop (i + 1) values))
    ∙ ap (λ (l : List Value). before ++ numbered number l) (sym next) ∙ all

-- ---- one edge more has its numbers
pub arc_here : (links : List Link) (arcs : List PlacedArc) (i : ℕ) (link : Link) → map placed_of links ≡ arcs → i < length links → link ≡ get_or links i link
    → take (i + 1) arcs ≡ take i arcs ++ placed_of link ∷ []
arc_here links arcs i link is low here =
    let size = length-map links placed_of in
    let read : get_or (map placed_of links) i (placed_of link) ≡ placed_of link = get_or-map placed_of links i link (placed_of link) low ∙ ap placed_of (sym here) in
    subst (λ (l : List PlacedArc). take (i + 1) l ≡ take i l ++ placed_of link ∷ []) is
    (take_more (map placed_of links) i (placed_of link) (omega (arith, size, low)) ∙ ap (λ (a : PlacedArc). take i (map placed_of links) ++ a ∷ []) read)

-- its places are among those of the objects
pub link_below : (links : List Link) (count i : ℕ) (link : Link) → All (JoinsBelow count) (map placed_of links) → i < length links → link ≡ get_or links i link → JoinsBelow count (placed_of link)
link_below links count i link below low here =
    let size = length-map links placed_of in
    subst (λ (a : PlacedArc). JoinsBelow count a) (get_or-map placed_of links i link (placed_of link) low ∙ ap placed_of (sym here))
    (All-get_or (JoinsBelow count) (map placed_of links) i (placed_of link) (omega (arith, size, low)) below)

pub edge_own : (edge : Edge) (next : ℕ) (table : List (List ℕ)) (arc : PlacedArc) → edge.parent.0 ≡ next + arc.parent → edge.label ≡ label_in table arc.label → edge.child.0 ≡ next + arc.child
    → edge ≡ edge_from next table arc
edge_own edge next table arc parent label child =
    ap (λ (n : ℕ). edge_of (oid_of n) edge.label edge.child) parent
    ∙ ap (λ (l : Label). edge_of (oid_of (next + arc.parent)) l edge.child) label
    ∙ ap (λ (n : ℕ). edge_of (oid_of (next + arc.parent)) (label_in table arc.label) (oid_of n)) child

pub numbers_more : (start numbers after : NumberedTexts) (arcs : List PlacedArc) (i : ℕ) (arc : PlacedArc) → take (i + 1) arcs ≡ take i arcs ++ arc ∷ []
    → numbers ≡ with_texts start (map (λ (a : PlacedArc). a.label) (take i arcs)) → after ≡ with_texts numbers (arc.label ∷ [])
    → after ≡ with_texts start (map (λ (a : PlacedArc). a.label) (take (i + 1) arcs))
numbers_more start numbers after arcs i arc more before step =
    let labels : List PlacedArc → List (List ℕ) = λ (l : List PlacedArc). map (λ (a : PlacedArc). a.label) l in
    step ∙ ap (λ (n : NumberedTexts). with_texts n (arc.label ∷ [])) before
    ∙ with_texts-append start (labels (take i arcs)) (arc.label ∷ [])
    ∙ ap (λ (l : List (List ℕ)). with_texts start l) (sym (map_push (λ (a : PlacedArc). a.label) (take i arcs) arc) ∙ ap labels (sym more))

pub edges_more : (next : ℕ) (numbers after : NumberedTexts) (arcs : List PlacedArc) (i : ℕ) (arc : PlacedArc) (before edges : List Edge) (edge : Edge)
    → take (i + 1) arcs ≡ take i arcs ++ arc ∷ [] → after ≡ with_texts numbers (arc.label ∷ [])
    → ((more : List (List ℕ)) → before ≡ map (edge_from next (table_of numbers ++ more)) (take i arcs)) → edges ≡ before ++ edge ∷ []
    → edge ≡ edge_from next (table_of after) arc → (more : List (List ℕ)) → edges ≡ map (edge_from next (table_of after ++ more)) (take (i + 1) arcs)
edges_more next numbers after arcs i arc before edges edge taken step all pushed own more =
    let firsts = first_uses (table_of numbers) (arc.label ∷ []) in
    let table : table_of after ≡ table_of numbers ++ firsts = ap table_of step ∙ table-with numbers (arc.label ∷ []) in
    let wider : table_of numbers ++ (firsts ++ more) ≡ table_of after ++ more = sym (append_assoc (table_of numbers) firsts more) ∙ ap (λ (l : List (List ℕ)). l ++ more) (sym table) in
    let earlier : before ≡ map (edge_from next (table_of after ++ more)) (take i arcs) =
    all (firsts ++ more) ∙ ap (λ (l : List (List ℕ)). map (edge_from next l) (take i arcs)) wider in
    let known = subst (λ (n : NumberedTexts). Contains (table_of n) arc.label) (sym step) (has_text numbers arc.label) in
    let same : edge_from next (table_of after) arc ≡ edge_from next (table_of after ++ more) arc =
    ap (λ (label : Label). edge_of (oid_of (next + arc.parent)) label (oid_of (next + arc.child))) (sym (label_in-append (table_of after) more arc.label known)) in
    pushed ∙ ap (λ (l : List Edge). l ++ edge ∷ []) earlier
    ∙ ap (λ (e : Edge). map (edge_from next (table_of after ++ more)) (take i arcs) ++ e ∷ []) (own ∙ same)
    ∙ sym (map_push (edge_from next (table_of after ++ more)) (take i arcs) arc)
    ∙ ap (map (edge_from next (table_of after ++ more))) (sym taken)

-- more labels for the edges so far than a table holds are more for all
pub labels_past : (start numbers : NumberedTexts) (arcs : List PlacedArc) (i : ℕ) (arc : PlacedArc) → take (i + 1) arcs ≡ take i arcs ++ arc ∷ []
    → numbers ≡ with_texts start (map (λ (a : PlacedArc). a.label) (take i arcs)) → LABELS < count_with numbers (arc.label ∷ [])
    → LABELS < count_with start (map (λ (a : PlacedArc). a.label) arcs)
labels_past start numbers arcs i arc more before past =
    let labels : List PlacedArc → List (List ℕ) = λ (l : List PlacedArc). map (λ (a : PlacedArc). a.label) l in
    let now : count_with numbers (arc.label ∷ []) ≡ count_with start (labels (take (i + 1) arcs)) =
    ap (λ (n : NumberedTexts). count_with n (arc.label ∷ [])) before ∙ count-then start (labels (take i arcs)) (arc.label ∷ [])
    ∙ ap (count_with start) (sym (map_push (λ (a : PlacedArc). a.label) (take i arcs) arc) ∙ ap labels (sym more)) in
    let whole : labels (take (i + 1) arcs) ++ labels (drop (i + 1) arcs) ≡ labels arcs =
    sym (map-append (λ (a : PlacedArc). a.label) (take (i + 1) arcs) (drop (i + 1) arcs)) ∙ ap labels (take-append-drop (i + 1) arcs) in
    let front = count-front start (labels (take (i + 1) arcs)) (labels (drop (i + 1) arcs)) in
    let all = ap (count_with start) whole in
    omega (arith, now, front, all, past)

-- ---- no more labels than a table holds
pub few_more : (numbers after : NumberedTexts) (text : List ℕ) → after ≡ with_texts numbers (text ∷ []) → count_with numbers (text ∷ []) ≤ LABELS → length (table_of after) ≤ LABELS
few_more numbers after text step few =
    let size = ap (λ (n : NumberedTexts). length (table_of n)) step ∙ ap length (table-with numbers (text ∷ []))
    ∙ length-append (table_of numbers) (first_uses (table_of numbers) (text ∷ [])) in
    omega (arith, size, few)

pub few_all : (start numbers : NumberedTexts) (arcs : List PlacedArc) (i : ℕ) → length arcs ≤ i → numbers ≡ with_texts start (map (λ (a : PlacedArc). a.label) (take i arcs))
    → length (table_of numbers) ≤ LABELS → count_with start (map (λ (a : PlacedArc). a.label) arcs) ≤ LABELS
few_all start numbers arcs i past step few =
    let texts = map (λ (a : PlacedArc). a.label) arcs in
    let all = step ∙ ap (λ (l : List PlacedArc). with_texts start (map (λ (a : PlacedArc). a.label) l)) (take_all i arcs past) in
    let size = ap (λ (n : NumberedTexts). length (table_of n)) all ∙ ap length (table-with start texts) ∙ length-append (table_of start) (first_uses (table_of start) texts) in
    omega (arith, size, few)

-- the numbers of a table alone
pub with_first : (table texts : List (List ℕ)) → with_texts (record { known = table; come = [] }) texts ≡ record { known = table; come = first_uses table texts }
with_first table texts = ap (λ (l : List (List ℕ)). let made : NumberedTexts = record { known = table; come = first_uses l texts } in made) (append-nil table)

pub count_first : (table texts : List (List ℕ)) → count_with (record { known = table; come = [] }) texts ≡ length table + length (first_uses table texts)
count_first table texts = ap (λ (l : List (List ℕ)). length l + length (first_uses l texts)) (append-nil table)
