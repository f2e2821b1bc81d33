-- The edges of a literal as they are placed one after another, and its objects as they are read.
use Rattle.std.proofs.Common.{Option, ◌≡◌, ℕ, ◌+◌, ◌-◌, ◌<◌, ◌≤◌, List, [], ◌∷◌, ◌++◌, length, map, take, drop, get_or, slice_set, All, Contains, sym, ap, subst, ◌∙◌, arith, length-drop, add-zero}
use Rattle.std.proofs.lemmas.List.{map_push, map_more, take-map, take_all, take_more_set, drop-set-lt, drop-drop, get_or-drop, get_or-map, length-map, length-take-le}
use Rattle.std.proofs.lemmas.List.Elements.{All-push, Contains-get_or}
use denote.Ref.{Bor}
use Rattle.lorel_trees.specs.Trees.{literal_tree}
use Rattle.lorel_trees.specs.declared.literals.Literal.{Literal}
use Rattle.oem_text.specs.declared.flat.Link.{Link}
use Rattle.oem_text.specs.Literals.{Body, Arc}
use Rattle.oem_text.specs.Layouts.{PlacedArc, placed_arc}
use Rattle.oem_text.specs.inside.Views.{body_of, bodies_of, arc_of, link_arcs, placed_of}
use Rattle.oem_text.specs.inside.Places.{IsFound}

-- ---- two lists that are the same from a place on
pub same_here : {X : Type 0} (xs ys : List X) (i : ℕ) (x : X) → x ≡ get_or xs i x → drop i xs ≡ drop i ys → x ≡ get_or ys i x
same_here {X} xs ys i x is rest =
    let there : get_or xs i x ≡ get_or ys i x =
    ap (λ n. get_or xs n x) (sym (add-zero i)) ∙ sym (get_or-drop i xs 0 x) ∙ ap (λ (l : List X). get_or l 0 x) rest ∙ get_or-drop i ys 0 x ∙ ap (λ n. get_or ys n x) (add-zero i) in
    is ∙ there

pub within_here : {X : Type 0} (xs ys : List X) (i : ℕ) → i < length xs → drop i xs ≡ drop i ys → i < length ys
within_here {X} xs ys i low rest =
    let sizes : length xs - i ≡ length ys - i = sym (length-drop i xs) ∙ ap length rest ∙ length-drop i ys in
    omega (arith, sizes, low)

-- ---- one edge more
arcs_more : (links : List Link) (i : ℕ) (link : Link) → i < length links → link ≡ get_or links i link → link_arcs (take (i + 1) links) ≡ link_arcs (take i links) ++ arc_of link ∷ []
arcs_more links i link low is = map_more arc_of links i link low ∙ ap (λ (l : Link). link_arcs (take i links) ++ arc_of l ∷ []) (sym is)

pub placed_more : (bodies : List Body) (links all : List Link) (i : ℕ) (link placed : Link) → i < length links → link ≡ get_or links i link → drop i links ≡ drop i all
    → map placed_of (take i links) ≡ map (placed_arc bodies) (link_arcs (take i all)) → placed_of placed ≡ placed_arc bodies (arc_of link)
    → map placed_of (take (i + 1) (slice_set links i placed)) ≡ map (placed_arc bodies) (link_arcs (take (i + 1) all))
placed_more bodies links all i link placed low is rest before here =
    let there = same_here links all i link is rest in
    let within = within_here links all i low rest in
    ap (map placed_of) (take_more_set links i placed low)
    ∙ map_push placed_of (take i links) placed
    ∙ ap (λ (l : List PlacedArc). l ++ placed_of placed ∷ []) before
    ∙ ap (λ (p : PlacedArc). map (placed_arc bodies) (link_arcs (take i all)) ++ p ∷ []) here
    ∙ sym (map_push (placed_arc bodies) (link_arcs (take i all)) (arc_of link))
    ∙ ap (map (placed_arc bodies)) (sym (arcs_more all i link within there))

pub found_more : (places : ℕ → Option ℕ) (links all : List Link) (i : ℕ) (link : Link) → i < length links → link ≡ get_or links i link → drop i links ≡ drop i all
    → All (IsFound places) (link_arcs (take i all)) → IsFound places (arc_of link) → All (IsFound places) (link_arcs (take (i + 1) all))
found_more places links all i link low is rest before here =
    subst (λ (l : List Arc). All (IsFound places) l) (sym (arcs_more all i link (within_here links all i low rest) (same_here links all i link is rest)))
    (All-push (IsFound places) (link_arcs (take i all)) (arc_of link) before here)

pub rest_more : (links all : List Link) (i : ℕ) (placed : Link) → drop i links ≡ drop i all → drop (i + 1) (slice_set links i placed) ≡ drop (i + 1) all
rest_more links all i placed rest =
    drop-set-lt (i + 1) links i placed (omega arith) ∙ sym (drop-drop 1 i links) ∙ ap (λ (l : List Link). drop 1 l) rest ∙ drop-drop 1 i all

-- an edge of the list is one of its edges
pub arc_there : (links all : List Link) (i : ℕ) (link : Link) → i < length links → link ≡ get_or links i link → drop i links ≡ drop i all → Contains (link_arcs all) (arc_of link)
arc_there links all i link low is rest =
    let there = same_here links all i link is rest in
    let within = within_here links all i low rest in
    let at : Contains (link_arcs all) (get_or (link_arcs all) i (arc_of link)) = Contains-get_or (link_arcs all) i (arc_of link) (omega (arith, within, length-map all arc_of)) in
    subst (λ (a : Arc). Contains (link_arcs all) a) (get_or-map arc_of all i link (arc_of link) within ∙ ap arc_of (sym there)) at

-- ---- one object more
pub literals_more : (literals : List (Bor Literal)) (i : ℕ) (literal : Bor Literal) → i < length literals → literal ≡ get_or literals i literal
    → take (i + 1) (bodies_of literals) ≡ take i (bodies_of literals) ++ body_of (literal_tree literal.now) ∷ []
literals_more literals i literal low is =
    let body : Bor Literal → Body = λ (l : Bor Literal). body_of (literal_tree l.now) in
    take-map body (i + 1) literals ∙ map_more body literals i literal low
    ∙ ap (λ (l : Bor Literal). map body (take i literals) ++ body_of (literal_tree l.now) ∷ []) (sym is)
    ∙ ap (λ (l : List Body). l ++ body_of (literal_tree literal.now) ∷ []) (sym (take-map body i literals))

pub literals_taken : (literals : List (Bor Literal)) (i : ℕ) → i < length literals → length (take i (bodies_of literals)) ≡ i
literals_taken literals i low =
    length-take-le i (bodies_of literals) (omega (arith, low, length-map literals (λ (l : Bor Literal). body_of (literal_tree l.now))))

pub literals_all : (literals : List (Bor Literal)) (i : ℕ) → length literals ≤ i → take i (bodies_of literals) ≡ bodies_of literals
literals_all literals i high =
    let sizes = length-map literals (λ (l : Bor Literal). body_of (literal_tree l.now)) in
    take_all i (bodies_of literals) (omega (arith, sizes, high))
