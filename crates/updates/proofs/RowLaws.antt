-- What tests of rows say of the graph and of the changes that come from the rows.
use Rattle.std.proofs.Common.{◌≡◌, ◌≢◌, ℕ, zero, Bool, true, false, not, IsTrue, ◌↔◌, ◌||◌, ◌&&◌, if◌then◌else◌, eqb, List, [], ◌∷◌, ◌++◌, Option, Some, None, Contains, refl, sym, ap, subst, inl, inr, ◌∙◌, arith, true≢false}
use Rattle.std.specs.List.{list_any, flat_map}
use Rattle.std.proofs.lemmas.List.Elements.{Contains-append_left, Contains-append_right, Contains-append_cases}
use Rattle.std.proofs.lemmas.Bool.Decides.{nat_tests}
use Rattle.std.proofs.lemmas.Bool.{or_cases, or_right, false_from_ne_true, and_parts, and_from}
use Rattle.lore_base.proofs.MemberLaws.{Contains-none, Contains-head, Contains-tail, Contains-cases}
use Rattle.lore_base.proofs.ToldLaws.{told_complex, complex_decides, complex_only, atom_only}
use Rattle.updates.specs.Types.{Oid, Label, Edge, Value, Complex}
use Rattle.lore_base.specs.Walks.{edge_of}
use Rattle.lore_base.specs.Databases.{IsLive, is_complex}
use Rattle.lore_base.specs.ChangeSets.{HasChildren}
use Rattle.updates.specs.Effects.{Pair, is_atomic, targets, link_of, links}
use Rattle.updates.specs.inside.RowTests.{has_child, links_atom}

-- ---- some item passes
pub any_found : {X : Type 0} (test : X → Bool) (xs : List X) → list_any test xs ≡ true → (x : X) × Contains xs x × (test x ≡ true)
any_found {X} test [] h = absurd (true≢false (sym h))
any_found {X} test (x ∷ xs) h =
    elim (or_cases (test x) (list_any test xs) h) [
      | inl here ↦ (x, Contains-head x xs, here)
      | inr later ↦ let found = any_found test xs later in (found.0, Contains-tail x xs found.0 found.1, found.2)
    ]

pub any_holds : {X : Type 0} (test : X → Bool) (xs : List X) (x : X) → Contains xs x → test x ≡ true → list_any test xs ≡ true
any_holds {X} test [] x h passes = absurd (Contains-none x h)
any_holds {X} test (y ∷ xs) x h passes =
    elim (Contains-cases y xs x h) [
      | inl same ↦ ap (λ b. b || list_any test xs) (ap test same ∙ passes)
      | inr later ↦ or_right (test y) (list_any test xs) (any_holds test xs x later passes)
    ]

-- ---- values
atomic_test : (value : Value) → (if is_complex value then false else true) ≡ true → value ≢ Complex
atomic_test value h same = true≢false (sym h ∙ ap (λ (b : Bool). if b then false else true) ((complex_decides value).1 same))

atomic_passes : (value : Value) → value ≢ Complex → (if is_complex value then false else true) ≡ true
atomic_passes value atom = ap (λ (b : Bool). if b then false else true) (atom_only value atom)

-- numbers that are equal make objects equal
same_oid : (a b : Oid) → eqb a.0 b.0 ≡ true → a ≡ b
same_oid a b h =
    let number : a.0 ≡ b.0 = grind (arith, nat_tests) in
    λ i. record { 0 = number i }

own_number : (a : Oid) → eqb a.0 a.0 ≡ true
own_number a = grind (arith, nat_tests)

-- ---- whether an object has an atomic value
pub atomic_found : (objects : List (Oid × Value)) (oid : Oid) → is_atomic objects oid ≡ true
    → (value : Value) × Contains objects (oid, value) × (value ≢ Complex)
atomic_found objects oid h =
    let found = any_found (λ (object : Oid × Value). eqb object.0.0 oid.0 && (if is_complex object.1 then false else true)) objects h in
    let parts = and_parts (eqb found.0.0.0 oid.0) (if is_complex found.0.1 then false else true) found.2 in
    let same = same_oid found.0.0 oid parts.0 in
    (found.0.1, subst (λ (o : Oid). Contains objects (o, found.0.1)) same found.1, atomic_test found.0.1 parts.1)

pub atomic_holds : (objects : List (Oid × Value)) (oid : Oid) (value : Value) → Contains objects (oid, value) → value ≢ Complex
    → is_atomic objects oid ≡ true
atomic_holds objects oid value there atomic =
    any_holds (λ (object : Oid × Value). eqb object.0.0 oid.0 && (if is_complex object.1 then false else true)) objects (oid, value) there
    (and_from (eqb oid.0 oid.0) (if is_complex value then false else true) (own_number oid) (atomic_passes value atomic))

-- told by the one value that the object has, or by none
pub atomic_is : (objects : List (Oid × Value)) (oid : Oid) (value : Value) → Contains objects (oid, value)
    → ((other : Value) → Contains objects (oid, other) → other ≡ value) → not (is_complex value) ≡ is_atomic objects oid
atomic_is objects oid value there only = elim (told_complex value) [
  | inl complex ↦ ap not ((complex_decides value).1 complex)
      ∙ sym (false_from_ne_true (is_atomic objects oid) (λ h. let found = atomic_found objects oid h in found.2 (only found.0 found.1 ∙ complex)))
  | inr atom ↦ ap not (atom_only value atom) ∙ sym (atomic_holds objects oid value there atom)
]

pub atomic_none : (objects : List (Oid × Value)) (oid : Oid) → (IsLive objects oid → ⊥) → false ≡ is_atomic objects oid
atomic_none objects oid none =
    sym (false_from_ne_true (is_atomic objects oid) (λ h. let found = atomic_found objects oid h in none (found.0, found.1)))

-- ---- whether an edge leaves an object
pub child_found : (edges : List Edge) (oid : Oid) → has_child edges oid ≡ true → HasChildren edges oid
child_found edges oid h =
    let found = any_found (λ (edge : Edge). eqb edge.parent.0 oid.0) edges h in
    (found.0, found.1, same_oid found.0.parent oid found.2)

pub child_holds : (edges : List Edge) (oid : Oid) → HasChildren edges oid → has_child edges oid ≡ true
child_holds edges oid h =
    any_holds (λ (edge : Edge). eqb edge.parent.0 oid.0) edges h.0 h.1
    (subst (λ (o : Oid). eqb h.0.parent.0 o.0 ≡ true) h.2 (own_number h.0.parent))

pub child_is : (b : Bool) (edges : List Edge) (oid : Oid) → IsTrue b ↔ HasChildren edges oid → b ≡ has_child edges oid
child_is true edges oid h = sym (child_holds edges oid (h.0 refl))
child_is false edges oid h = sym (false_from_ne_true (has_child edges oid) (λ k. true≢false (sym (h.1 (child_found edges oid k)))))

-- ---- members of the lists that come from rows
pub link_found : (label : Label) (rows : List Pair) (edge : Edge) → Contains (links label rows) edge
    → (parent child : Oid) × Contains rows (parent, Some child) × (edge_of parent label child ≡ edge)
link_found label [] edge h = absurd (Contains-none edge h)
link_found label ((parent, None) ∷ rows) edge h =
    let found = link_found label rows edge h in
    (found.0, found.1, Contains-tail (parent, None) rows (found.0, Some found.1) found.2, found.3)
link_found label ((parent, Some child) ∷ rows) edge h =
    elim (Contains-cases (edge_of parent label child) (links label rows) edge h) [
      | inl same ↦ (parent, child, Contains-head (parent, Some child) rows, same)
      | inr later ↦ let found = link_found label rows edge later in
          (found.0, found.1, Contains-tail (parent, Some child) rows (found.0, Some found.1) found.2, found.3)
    ]

pub link_holds : (label : Label) (rows : List Pair) (parent child : Oid) → Contains rows (parent, Some child)
    → Contains (links label rows) (edge_of parent label child)
link_holds label [] parent child h = absurd (Contains-none (parent, Some child) h)
link_holds label (row ∷ rows) parent child h =
    elim (Contains-cases row rows (parent, Some child) h) [
      | inl same ↦ subst (λ (r : Pair). Contains (link_of label r ++ links label rows) (edge_of parent label child)) (sym same)
          (Contains-head (edge_of parent label child) (links label rows))
      | inr later ↦ Contains-append_right (link_of label row) (links label rows) (edge_of parent label child) (link_holds label rows parent child later)
    ]
