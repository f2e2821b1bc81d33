-- The edges of a literal join places of its objects, also where they lead to a local that marks one.
use Rattle.std.proofs.Common.{Option, ◌≡◌, ℕ, ◌+◌, ◌<◌, ◌≤◌, List, ◌++◌, length, map, All, Contains, Some, refl, arith, length-append}
use Rattle.std.proofs.lemmas.Option.{slice_get_within}
use Rattle.std.proofs.lemmas.List.Elements.{All-nil, All-cons, All-append, All-weaker, All-contains, All-contains_itself, All-map}
use Rattle.lorel_trees.specs.Trees.{LiteralTree, local, atom, node, MemberTrees, none, more}
use Rattle.oem_text.specs.Literals.{Body, Arc, Target, placed, called, target, bodies, member_bodies, arcs, member_arcs, arcs_of, target_place}
use Rattle.oem_text.specs.Layouts.{JoinsBelow, placed_arc}
use Rattle.oem_text.specs.inside.Places.{ArePlaces, IsFound}
use Rattle.oem_text.proofs.PlaceLaws.{place_found}

-- the edge leaves a place below the count, and leads to one if not to a local
record IsArcBelow (count : ℕ) (arc : Arc) : Type 0 where
  parent : arc.parent < count
  child : (place : ℕ) → arc.target ≡ placed place → place < count

target_below : (count place to : ℕ) (literal : LiteralTree) → place + length (bodies literal) ≤ count → target place literal ≡ placed to → to < count
target_below count place to (local number) fits is = absurd (cc)
target_below count place to (atom mark value) fits is = let same : place ≡ to = cc in omega (arith, same, fits)
target_below count place to (node mark members) fits is = let same : place ≡ to = cc in omega (arith, same, fits)

mutual
  arcs_below : (count place : ℕ) (literal : LiteralTree) → place + length (bodies literal) ≤ count → All (IsArcBelow count) (arcs place literal)
  arcs_below count place (local number) fits = All-nil (IsArcBelow count)
  arcs_below count place (atom mark value) fits = All-nil (IsArcBelow count)
  arcs_below count place (node mark members) fits = members_below count place (place + 1) members (omega (arith, fits)) (omega (arith, fits))

  members_below : (count parent place : ℕ) (members : MemberTrees) → parent < count → place + length (member_bodies members) ≤ count
      → All (IsArcBelow count) (member_arcs parent place members)
  members_below count parent place none low fits = All-nil (IsArcBelow count)
  members_below count parent place (more label literal others) low fits =
      let sizes = length-append (bodies literal) (member_bodies others) in
      let own : place + length (bodies literal) ≤ count = omega (arith, sizes, fits) in
      let next = place + length (bodies literal) in
      All-cons (IsArcBelow count) (record { parent = parent; label = label; target = target place literal }) (arcs place literal ++ member_arcs parent next others)
      (record { parent = low; child = λ to is. target_below count place to literal own is })
      (All-append (IsArcBelow count) (arcs place literal) (member_arcs parent next others) (arcs_below count place literal own)
      (members_below count parent next others low (omega (arith, sizes, fits))))

place_below : (xs : List Body) (places : ℕ → Option ℕ) (goal : Target) → ArePlaces xs places → ((place : ℕ) → goal ≡ placed place → place < length xs)
    → ((number : ℕ) → goal ≡ called number → (place : ℕ) × (places number ≡ Some place)) → target_place xs goal < length xs
place_below xs places (placed place) are low found = low place refl
place_below xs places (called number) are low found =
    let there = found number refl in
    let at = are.marked number there.0 there.1 in
    let within = slice_get_within xs there.0 at.body at.at in
    let same = place_found xs places number there.0 are there.1 in
    omega (arith, within, same)

-- the edges between places
pub joined : (literal : LiteralTree) (places : ℕ → Option ℕ) → ArePlaces (bodies literal) places → All (IsFound places) (arcs_of literal)
    → All (JoinsBelow (length (bodies literal))) (map (placed_arc (bodies literal)) (arcs_of literal))
joined literal places are found =
    let xs = bodies literal in
    let below = arcs_below (length xs) 0 literal (omega arith) in
    All-map (JoinsBelow (length xs)) (placed_arc xs) (arcs_of literal)
    (All-weaker (Contains (arcs_of literal)) (λ (arc : Arc). JoinsBelow (length xs) (placed_arc xs arc))
    (λ arc at.
    let low = All-contains (IsArcBelow (length xs)) (arcs_of literal) arc below at in
    let known = All-contains (IsFound places) (arcs_of literal) arc found at in
    record { parent = low.parent; child = place_below xs places arc.target are low.child known.place })
    (arcs_of literal) (All-contains_itself (arcs_of literal)))

-- a literal that is not a local has an object
pub some_body : (literal : LiteralTree) → ((number : ℕ) → literal ≡ local number → ⊥) → 0 < length (bodies literal)
some_body (local number) other = absurd (other number refl)
some_body (atom mark value) other = omega arith
some_body (node mark members) other = omega arith
