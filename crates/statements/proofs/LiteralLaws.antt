-- What a literal makes fits together: its objects are numbered one after another, and its edges join them, where each
-- local that it uses marks one of them.
use Rattle.std.proofs.Common.{◌≡◌, ◌⊎◌, inl, inr, ℕ, zero, suc, ◌+◌, ◌<◌, ◌≤◌, Bool, true, false, if◌then◌else◌, List, [], ◌∷◌, ◌++◌, length, map, Some, All, Contains, refl, sym, ap, subst, ◌∙◌, arith, true≢false}
use Rattle.std.proofs.lemmas.List.{length-map, map-append, length-append}
use Rattle.std.proofs.lemmas.Option.{none-some, same_Some}
use Rattle.std.proofs.lemmas.Bool.Decides.{nat_tests}
use Rattle.std.proofs.lemmas.List.Elements.{All-nil, All-cons, All-append, All-weaker, All-map, All-contains, Contains-append_left, Contains-append_right}
use Rattle.lore_base.specs.Names.{IsLabel}
use Rattle.lore_base.specs.Walks.{oid_of}
use Rattle.lore_base.specs.Databases.{IsLive, IsComplex, IsSized, IsLinked}
use Rattle.lore_base.proofs.MemberLaws.{Contains-head, Contains-tail}
use Rattle.list_laws.proofs.MemberLaws.{All-from_members, Contains-map}
use Rattle.oem_text.proofs.NumberedLaws.{numbered-append, numbered_live, numbered_sized}
use Rattle.lorel_trees.specs.Trees.{LiteralTree, local, atom, node, MemberTrees, none, more}
use Rattle.lorel_trees.specs.Formed.{IsFormedLiteral, AreFormedMembers}
use Rattle.statements.specs.Types.{Oid, Value, Complex}
use Rattle.oem_text.specs.Literals.{Body, Target, placed, called, Arc, bodies, member_bodies, target, arcs, member_arcs, arcs_of, labels_of, IsMarkedAt, HasUndefined, is_mark, marked_place, target_place, numbered, objects_of, edge_at, edges_of}

-- each item of the one list is in the other
abbrev pub Within : {X : Type 0} → List X → List X → Type 0
Within {X} xs ys = (x : X) → Contains xs x → Contains ys x

-- the values of objects
abbrev pub values_of : List Body → List Value
values_of places = map (λ body. body.value) places

-- ---- numbers
-- ---- forms
mutual
  bodies_sized : (literal : LiteralTree) → IsFormedLiteral literal → All (λ body. IsSized body.value) (bodies literal)
  bodies_sized (local number) formed = All-nil (λ (body : Body). IsSized body.value)
  bodies_sized (atom mark value) formed =
      All-cons (λ (body : Body). IsSized body.value) (record { mark = mark; value = value }) [] formed.1 (All-nil (λ (body : Body). IsSized body.value))
  bodies_sized (node mark members) formed =
      All-cons (λ (body : Body). IsSized body.value) (record { mark = mark; value = Complex }) (member_bodies members) tt (members_sized members formed.1)

  members_sized : (members : MemberTrees) → AreFormedMembers members → All (λ body. IsSized body.value) (member_bodies members)
  members_sized none formed = All-nil (λ (body : Body). IsSized body.value)
  members_sized (more label literal others) formed =
      All-append (λ (body : Body). IsSized body.value) (bodies literal) (member_bodies others) (bodies_sized literal formed.1) (members_sized others formed.2)

pub objects_sized : (next : ℕ) (literal : LiteralTree) → IsFormedLiteral literal → All (λ object. IsSized object.1) (objects_of next literal)
objects_sized next literal formed =
    numbered_sized next (values_of (bodies literal)) (All-map IsSized (λ (body : Body). body.value) (bodies literal) (bodies_sized literal formed))

mutual
  arcs_formed : (place : ℕ) (literal : LiteralTree) → IsFormedLiteral literal → All (λ arc. IsLabel arc.label) (arcs place literal)
  arcs_formed place (local number) formed = All-nil (λ (arc : Arc). IsLabel arc.label)
  arcs_formed place (atom mark value) formed = All-nil (λ (arc : Arc). IsLabel arc.label)
  arcs_formed place (node mark members) formed = member_arcs_formed place (place + 1) members formed.1

  member_arcs_formed : (parent place : ℕ) (members : MemberTrees) → AreFormedMembers members → All (λ arc. IsLabel arc.label) (member_arcs parent place members)
  member_arcs_formed parent place none formed = All-nil (λ (arc : Arc). IsLabel arc.label)
  member_arcs_formed parent place (more label literal others) formed =
      All-cons (λ (arc : Arc). IsLabel arc.label) (record { parent = parent; label = label; target = target place literal })
      (arcs place literal ++ member_arcs parent (place + length (bodies literal)) others) formed.0
      (All-append (λ (arc : Arc). IsLabel arc.label) (arcs place literal) (member_arcs parent (place + length (bodies literal)) others)
      (arcs_formed place literal formed.1) (member_arcs_formed parent (place + length (bodies literal)) others formed.2))

pub labels_formed : (literal : LiteralTree) → IsFormedLiteral literal → All IsLabel (labels_of literal)
labels_formed literal formed = All-map IsLabel (λ (arc : Arc). arc.label) (arcs_of literal) (arcs_formed 0 literal formed)

-- ---- parents
-- among objects numbered from `next` on, the edge's parent is complex
abbrev LeavesComplex : List (Oid × Value) → ℕ → Arc → Type 0
LeavesComplex objects next arc = IsComplex objects (oid_of (next + arc.parent))

-- the objects of a literal at a place, and those of the members behind it
member_objects : (next place : ℕ) (literal : LiteralTree) (others : MemberTrees)
    → numbered (next + place) (values_of (bodies literal ++ member_bodies others))
    ≡ numbered (next + place) (values_of (bodies literal)) ++ numbered (next + (place + length (bodies literal))) (values_of (member_bodies others))
member_objects next place literal others =
    let count = length-map (bodies literal) (λ (body : Body). body.value) in
    let same : (next + place) + length (values_of (bodies literal)) ≡ next + (place + length (bodies literal)) = omega (arith, count) in
    ap (numbered (next + place)) (map-append (λ (body : Body). body.value) (bodies literal) (member_bodies others))
    ∙ numbered-append (next + place) (values_of (bodies literal)) (values_of (member_bodies others))
    ∙ ap (λ n. numbered (next + place) (values_of (bodies literal)) ++ numbered n (values_of (member_bodies others))) same

mutual
  arcs_leave : (objects : List (Oid × Value)) (next place : ℕ) (literal : LiteralTree)
      → Within (numbered (next + place) (values_of (bodies literal))) objects → All (LeavesComplex objects next) (arcs place literal)
  arcs_leave objects next place (local number) within = All-nil (LeavesComplex objects next)
  arcs_leave objects next place (atom mark value) within = All-nil (LeavesComplex objects next)
  arcs_leave objects next place (node mark members) within =
      let first : Oid × Value = (oid_of (next + place), Complex) in
      let rest = numbered ((next + place) + 1) (values_of (member_bodies members)) in
      let same : next + (place + 1) ≡ (next + place) + 1 = omega arith in
      members_leave objects next place (place + 1) members (within first (Contains-head first rest))
      (λ object at. within object (Contains-tail first rest object
      (subst (λ n. Contains (numbered n (values_of (member_bodies members))) object) same at)))

  members_leave : (objects : List (Oid × Value)) (next parent place : ℕ) (members : MemberTrees) → IsComplex objects (oid_of (next + parent))
      → Within (numbered (next + place) (values_of (member_bodies members))) objects → All (LeavesComplex objects next) (member_arcs parent place members)
  members_leave objects next parent place none above within = All-nil (LeavesComplex objects next)
  members_leave objects next parent place (more label literal others) above within =
      let own = numbered (next + place) (values_of (bodies literal)) in
      let rest = numbered (next + (place + length (bodies literal))) (values_of (member_bodies others)) in
      let all = member_objects next place literal others in
      let inner = arcs place literal in
      let outer = member_arcs parent (place + length (bodies literal)) others in
      All-cons (LeavesComplex objects next) (record { parent = parent; label = label; target = target place literal }) (inner ++ outer) above
      (All-append (LeavesComplex objects next) inner outer
      (arcs_leave objects next place literal
      (λ object at. within object (subst (λ l. Contains l object) (sym all) (Contains-append_left own rest object at))))
      (members_leave objects next parent (place + length (bodies literal)) others above
      (λ object at. within object (subst (λ l. Contains l object) (sym all) (Contains-append_right own rest object at)))))

-- ---- what edges lead to
-- an object that an edge leads to in the text has a place below this one
abbrev LeadsBelow : ℕ → Arc → Type 0
LeadsBelow count arc = (place : ℕ) → arc.target ≡ placed place → place < count

wider_below : (count wider : ℕ) → count ≤ wider → (list : List Arc) → All (LeadsBelow count) list → All (LeadsBelow wider) list
wider_below count wider low list h =
    All-weaker (LeadsBelow count) (LeadsBelow wider) (λ arc below place is. (let inner = below place is in omega (arith, inner, low))) list h

target_below : (place : ℕ) (literal : LiteralTree) (at : ℕ) → target place literal ≡ placed at → at < place + length (bodies literal)
target_below place (local number) at is = cc
target_below place (atom mark value) at is = let same : place ≡ at = cc in omega (arith, same)
target_below place (node mark members) at is = let same : place ≡ at = cc in omega (arith, same)

mutual
  arcs_below : (place : ℕ) (literal : LiteralTree) → All (LeadsBelow (place + length (bodies literal))) (arcs place literal)
  arcs_below place (local number) = All-nil (LeadsBelow (place + 0))
  arcs_below place (atom mark value) = All-nil (LeadsBelow (place + length (bodies (atom mark value))))
  arcs_below place (node mark members) =
      let same : (place + 1) + length (member_bodies members) ≡ place + length (bodies (node mark members)) = omega arith in
      subst (λ n. All (LeadsBelow n) (member_arcs place (place + 1) members)) same (member_arcs_below place (place + 1) members)

  member_arcs_below : (parent place : ℕ) (members : MemberTrees) → All (LeadsBelow (place + length (member_bodies members))) (member_arcs parent place members)
  member_arcs_below parent place none = All-nil (LeadsBelow (place + 0))
  member_arcs_below parent place (more label literal others) =
      let count = place + length (bodies literal ++ member_bodies others) in
      let joined = length-append (bodies literal) (member_bodies others) in
      let first : place + length (bodies literal) ≤ count = omega (arith, joined) in
      let second : (place + length (bodies literal)) + length (member_bodies others) ≡ count = omega (arith, joined) in
      let inner = arcs place literal in
      let outer = member_arcs parent (place + length (bodies literal)) others in
      All-cons (LeadsBelow count) (record { parent = parent; label = label; target = target place literal }) (inner ++ outer)
      (λ at is. (let low = target_below place literal at is in omega (arith, low, first)))
      (All-append (LeadsBelow count) inner outer (wider_below (place + length (bodies literal)) count first inner (arcs_below place literal))
      (subst (λ n. All (LeadsBelow n) outer) second (member_arcs_below parent (place + length (bodies literal)) others)))

-- ---- locals
own_mark : (number : ℕ) → is_mark number (Some number) ≡ true
own_mark number = grind (arith, nat_tests)

none_at : (body : Body) (places : List Body) (number : ℕ) → ((place : ℕ) → IsMarkedAt places number place → ⊥)
    → is_mark number body.mark ≡ false → (place : ℕ) → IsMarkedAt (body ∷ places) number place → ⊥
none_at body places number nowhere is zero h =
    let same : body ≡ h.body = same_Some body h.body h.at in
    let mark : body.mark ≡ Some number = ap (λ (b : Body). b.mark) same ∙ h.marked in
    true≢false (sym (own_mark number) ∙ ap (is_mark number) (sym mark) ∙ is)
none_at body places number nowhere is (suc place) h = nowhere place (record { body = h.body; at = h.at; marked = h.marked })

-- one body more
marked_more : (body : Body) (places : List Body) (number : ℕ) (test : Bool) → is_mark number body.mark ≡ test
    → (marked_place places number < length places) ⊎ ((place : ℕ) → IsMarkedAt places number place → ⊥)
    → (marked_place (body ∷ places) number < length (body ∷ places)) ⊎ ((place : ℕ) → IsMarkedAt (body ∷ places) number place → ⊥)
marked_more body places number true is others =
    let here : marked_place (body ∷ places) number ≡ 0 = ap (λ b. if b then 0 else (1 + marked_place places number)) is in
    inl (omega (arith, here))
marked_more body places number false is (inl low) =
    let behind : marked_place (body ∷ places) number ≡ 1 + marked_place places number = ap (λ b. if b then 0 else (1 + marked_place places number)) is in
    inl (omega (arith, behind, low))
marked_more body places number false is (inr nowhere) = inr (none_at body places number nowhere is)

-- a local marks some place, or none
pub marked_or_not : (places : List Body) (number : ℕ) → (marked_place places number < length places) ⊎ ((place : ℕ) → IsMarkedAt places number place → ⊥)
marked_or_not [] number = inr (λ place h. none-some h.body h.at)
marked_or_not (body ∷ places) number = marked_more body places number (is_mark number body.mark) refl (marked_or_not places number)

-- a literal whose locals are defined begins with an object
pub some_body : (literal : LiteralTree) → (HasUndefined literal → ⊥) → 0 < length (bodies literal)
some_body (local number) defined =
    absurd (defined (record { number = number; used = Contains-head (called number) []; unmarked = λ place h. none-some h.body h.at }))
some_body (atom mark value) defined = omega arith
some_body (node mark members) defined = omega arith

child_below : (literal : LiteralTree) → (HasUndefined literal → ⊥) → (arc : Arc) → Contains (arcs_of literal) arc
    → target_place (bodies literal) arc.target < length (bodies literal)
child_below literal defined arc there = by arc.target refl
  where
    by : (end : Target) → arc.target ≡ end → target_place (bodies literal) arc.target < length (bodies literal)
    by (placed place) is =
        let same : 0 + length (bodies literal) ≡ length (bodies literal) = omega arith in
        let low = All-contains (LeadsBelow (0 + length (bodies literal))) (arcs_of literal) arc (arcs_below 0 literal) there place is in
        let at : target_place (bodies literal) arc.target ≡ place = ap (target_place (bodies literal)) is in
        omega (arith, low, at, same)
    by (called number) is =
        let at : target_place (bodies literal) arc.target ≡ marked_place (bodies literal) number = ap (target_place (bodies literal)) is in
        elim (marked_or_not (bodies literal) number) [
          | inl low ↦ omega (arith, low, at)
          | inr nowhere ↦ absurd (defined (record {
            number = number;
            used = Contains-tail (target 0 literal) (map (λ (a : Arc). a.target) (arcs_of literal)) (called number)
                (subst (Contains (map (λ (a : Arc). a.target) (arcs_of literal))) is (Contains-map (λ (a : Arc). a.target) (arcs_of literal) arc there));
            unmarked = nowhere;
          }))
        ]

-- ---- edges
-- the edges of a literal whose locals are defined join its objects
pub edges_linked : (objects : List (Oid × Value)) (next : ℕ) (table : List (List ℕ)) (literal : LiteralTree) → (HasUndefined literal → ⊥)
    → Within (objects_of next literal) objects → All (IsLinked objects) (edges_of next table literal)
edges_linked objects next table literal defined within =
    let same : next + 0 ≡ next = omega arith in
    let leave = arcs_leave objects next 0 literal (λ object at. within object (subst (λ n. Contains (numbered n (values_of (bodies literal))) object) same at)) in
    All-map (IsLinked objects) (edge_at next table (bodies literal)) (arcs_of literal)
    (All-from_members (λ arc. IsLinked objects (edge_at next table (bodies literal) arc)) (arcs_of literal) (λ arc there.
    let low = child_below literal defined arc there in
    let count = length-map (bodies literal) (λ (body : Body). body.value) in
    let live = numbered_live next (values_of (bodies literal)) (target_place (bodies literal) arc.target) (omega (arith, low, count)) in
    record {
      parent = All-contains (LeavesComplex objects next) (arcs_of literal) arc leave there;
      child = (live.0, within (oid_of (next + target_place (bodies literal) arc.target), live.0) live.1);
    }))

pub first_live : (next : ℕ) (literal : LiteralTree) → (HasUndefined literal → ⊥) → IsLive (objects_of next literal) (oid_of next)
first_live next literal defined =
    let count = length-map (bodies literal) (λ (body : Body). body.value) in
    let some = some_body literal defined in
    let same : next + 0 ≡ next = omega arith in
    subst (λ n. IsLive (objects_of next literal) (oid_of n)) same (numbered_live next (values_of (bodies literal)) 0 (omega (arith, some, count)))
