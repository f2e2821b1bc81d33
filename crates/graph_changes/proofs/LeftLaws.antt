-- What is left of objects and edges where some objects are dead and others have new values.
use Rattle.std.proofs.Common.{◌≡◌, ℕ, ◌<◌, ◌≤◌, ◌↔◌, ◌||◌, Bool, true, false, not, nat_eq, inl}
use Rattle.std.proofs.Common.{inr, List, [], ◌∷◌, get_or, AllPairs, Contains, refl, sym, ap}
use Rattle.std.proofs.Common.{◌∙◌, subst, arith}
use Rattle.std.proofs.lemmas.Bool.{true≢false}
use Rattle.std.proofs.lemmas.Bool.Decides.{nat_tests}
use Rattle.std.proofs.lemmas.List.Kept.{AllPairs-filter}
use Rattle.std.specs.List.Sorted.{IsPermutation, IsNonDecreasingBy}
use Rattle.std.proofs.lemmas.List.Sorted.{IsPermutation-sym, Contains-permutation}
use Rattle.std.proofs.lemmas.Map.Keys.{IsDistinct-from_apart, IsDistinct-IsPermutation, apart_from_distinct}
use Rattle.lore_base.proofs.MemberLaws.{Contains-none, Contains-head, Contains-tail, Contains-cases, Contains-same}
use Rattle.lore_base.proofs.MemberLaws.{Contains-filter, unfiltered}
use Rattle.graph_changes.specs.Types.{Oid, Edge, Value}
use Rattle.lore_base.specs.Databases.{AreAscendingObjects}
use Rattle.graph_changes.specs.Left.{is_among, AreOrdered, not_dead, edges_left}

eq_self : (a : ℕ) → nat_eq a a ≡ true
eq_self a = grind (arith, nat_tests)

same_oid : (a b : Oid) → nat_eq a.0 b.0 ≡ true → a ≡ b
same_oid a b h = let number : a.0 ≡ b.0 = grind (arith, nat_tests) in ap (λ (n : ℕ). record { 0 = n }) number

nat_eq_flips : (a b : ℕ) → nat_eq a b ≡ nat_eq b a
nat_eq_flips a b = grind (arith, nat_tests)

-- which objects are among those listed
pub among : (oids : List Oid) (oid : Oid) → Contains oids oid → is_among oids oid ≡ true
among [] oid at = absurd (Contains-none oid at)
among (first ∷ oids) oid at = elim (Contains-cases first oids oid at) [
  | inl same ↦ ap (λ (o : Oid). nat_eq oid.0 o.0 || is_among oids oid) same ∙ ap (λ (b : Bool). b || is_among oids oid) (eq_self oid.0)
  | inr later ↦ let rest = among oids oid later in elim (nat_eq oid.0 first.0) as (λ b. b || is_among oids oid ≡ true) [ true ↦ refl | false ↦ rest ]
]

pub among-back : (oids : List Oid) (oid : Oid) → is_among oids oid ≡ true → Contains oids oid
among-back [] oid h = absurd (true≢false (sym h))
among-back (first ∷ oids) oid h =
    elim (nat_eq oid.0 first.0) as (λ b. nat_eq oid.0 first.0 ≡ b → (b || is_among oids oid) ≡ true → Contains (first ∷ oids) oid) [
      | true ↦ λ same _. Contains-same (first ∷ oids) first oid (sym (same_oid oid first same)) (Contains-head first oids)
      | false ↦ λ other later. Contains-tail first oids oid (among-back oids oid later)
    ] refl h

pub not_among : (oids : List Oid) (oid : Oid) → (Contains oids oid → ⊥) → is_among oids oid ≡ false
not_among oids oid none = elim (is_among oids oid) as (λ b. is_among oids oid ≡ b → b ≡ false) [
  | true ↦ λ yes. absurd (none (among-back oids oid yes))
  | false ↦ λ no. refl
] refl

-- the objects that aren't dead
pub members-not_dead : (dead : List Oid) (objects : List (Oid × Value)) (o : Oid × Value)
    → Contains (not_dead dead objects) o ↔ (Contains objects o × (Contains dead o.0 → ⊥))
members-not_dead dead objects o = (
  λ at.
      let passed = unfiltered (λ (x : Oid × Value). not (is_among dead x.0)) objects o at in
      (passed.0, λ there. true≢false (sym passed.1 ∙ ap not (among dead o.0 there))),
  λ both. Contains-filter (λ (x : Oid × Value). not (is_among dead x.0)) objects o both.0 (ap not (not_among dead o.0 both.1)),
)

pub ascend-not_dead : (dead : List Oid) (objects : List (Oid × Value)) → AreAscendingObjects objects → AreAscendingObjects (not_dead dead objects)
ascend-not_dead dead objects ascend = AllPairs-filter (λ (a b : Oid × Value). a.0.0 < b.0.0) (λ (o : Oid × Value). not (is_among dead o.0)) objects ascend

pub all-edges-left : (edges : List Edge) → edges_left [] edges ≡ edges
all-edges-left [] = refl
all-edges-left (edge ∷ edges) = ap (λ (l : List Edge). edge ∷ l) (all-edges-left edges)

-- the edges that are left
pub members-edges_left : (dead : List Oid) (edges : List Edge) (edge : Edge)
    → Contains (edges_left dead edges) edge ↔ (Contains edges edge × (Contains dead edge.parent → ⊥))
members-edges_left dead edges edge = (
  λ at.
      let passed = unfiltered (λ (e : Edge). not (is_among dead e.parent)) edges edge at in
      (passed.0, λ there. true≢false (sym passed.1 ∙ ap not (among dead edge.parent there))),
  λ both. Contains-filter (λ (e : Edge). not (is_among dead e.parent)) edges edge both.0 (ap not (not_among dead edge.parent both.1)),
)

-- values that were sorted by their objects, each of which has one
apart_numbers : (a b : Oid) → (a ≡ b → ⊥) → nat_eq a.0 b.0 ≡ false
apart_numbers a b other = elim (nat_eq a.0 b.0) as (λ t. nat_eq a.0 b.0 ≡ t → t ≡ false) [
  | true ↦ λ same. absurd (other (same_oid a b same))
  | false ↦ λ no. refl
] refl

rises : (a b : ℕ) → a ≤ b → nat_eq a b ≡ false → a < b
rises a b le other = grind (arith, nat_tests)

pub values-ordered : (given copy values : List (Oid × Value)) → AllPairs (λ a b. a.0 ≡ b.0 → ⊥) given
    → copy ≡ given → IsPermutation copy values
    → IsNonDecreasingBy (λ (o : Oid × Value). o.0.0) values → AreOrdered given values
values-ordered given copy values once same moved sorted =
    let test : Oid × Value → Oid × Value → Bool = λ a b. nat_eq a.0.0 b.0.0 in
    let from_given = subst (λ (l : List (Oid × Value)). IsPermutation l values) same moved in
    let distinct = IsDistinct-from_apart test given (λ i j d lt len. apart_numbers (get_or given i d).0 (get_or given j d).0 (once i j d lt len)) in
    let still = IsDistinct-IsPermutation test (λ a b. nat_eq_flips a.0.0 b.0.0) given values from_given distinct in
    record {
      ascend = λ i j d lt len. rises (get_or values i d).0.0 (get_or values j d).0.0 (sorted i j d (omega arith) len) (apart_from_distinct test values i j d still lt len);
      members = λ object. (
        Contains-permutation values given object (IsPermutation-sym given values from_given),
        Contains-permutation given values object from_given,
      );
    }
