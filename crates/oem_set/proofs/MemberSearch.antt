-- Objects by their numbers: lists of them in order, and a binary search among them.
use Rattle.std.proofs.Common.{◌≡◌, ℕ, ◌<◌, ◌≤◌, ◌↔◌, nat_eq, true, Decides, Less, Equal, Err, List, get_or, AllPairs, Contains, sym, ap, ◌∙◌, inl, inr, arith}
use Rattle.std.specs.Ordering.{nat_cmp, ordering_index}
use Rattle.std.specs.List.Sorted.{IsBinarySearchResult, IsNonDecreasingBy}
use Rattle.std.proofs.lemmas.Bool.{cases_lt}
use Rattle.std.proofs.lemmas.Bool.Decides.{nat_tests}
use Rattle.std.proofs.lemmas.Cmp.{tied_itself, nat_cmp_total}
use Rattle.list_laws.proofs.OrderLaws.{less_from_cmp}
use Rattle.lore_base.specs.TargetSets.{ListsInOrder}
use Rattle.oem_set.specs.Types.{Oid}
use Rattle.oem_set.specs.Sets.{IsSet}

pub same_oid : (a b : Oid) → nat_eq a.0 b.0 ≡ true → a ≡ b
same_oid a b h = let number : a.0 ≡ b.0 = grind (arith, nat_tests) in ap (λ n. record { 0 = n }) number

pub Decides-same_oid : (a b : Oid) → Decides (nat_eq a.0 b.0) (a ≡ b)
Decides-same_oid a b = (same_oid a b, λ same. let number : a.0 ≡ b.0 = ap (λ (o : Oid). o.0) same in grind (arith, nat_tests))

-- what compares as less ascends
pub IsSet-from_less : (oids : List Oid) → AllPairs (λ a b. nat_cmp a.0 b.0 ≡ Less) oids → IsSet oids
IsSet-from_less oids less i j d before within = less_from_cmp (get_or oids i d).0 (get_or oids j d).0 (less i j d before within)

-- sorted objects list what those that were sorted are
pub lists-sorted : (P : Oid → Type 0) (given set : List Oid) → AllPairs (λ a b. nat_cmp a.0 b.0 ≡ Less) set
    → ((oid : Oid) → Contains set oid ↔ Contains given oid) → ((oid : Oid) → Contains given oid ↔ P oid) → ListsInOrder P set
lists-sorted P given set less moved are = record {
  ascending = IsSet-from_less set less;
  exact = λ oid. (λ at. (are oid).0 ((moved oid).0 at), λ h. (moved oid).1 ((are oid).1 h));
}

comparison_rises : (a b x : ℕ) → a < b → ordering_index (nat_cmp a x) ≤ ordering_index (nat_cmp b x)
comparison_rises a b x less = grind (arith, nat_tests)

comparisons_rise : (oids : List Oid) → IsSet oids → (x : Oid) → IsNonDecreasingBy (λ e. ordering_index (nat_cmp e.0 x.0)) oids
comparisons_rise oids ascend x i j d le lt = elim (cases_lt i j) [
  | inl before ↦ comparison_rises (get_or oids i d).0 (get_or oids j d).0 x.0 (ascend i j d before lt)
  | inr ge ↦ let same : i ≡ j = omega arith in omega (arith, ap (λ k. ordering_index (nat_cmp (get_or oids k d).0 x.0)) same)
]

-- where a search ends at a gap the object does not stand there
pub none_found : (oids : List Oid) → IsSet oids → (oid : Oid) (place : ℕ) → IsBinarySearchResult (λ e. nat_cmp e.0 oid.0) oids (Err place) → Contains oids oid → ⊥
none_found oids ascend oid place gap at =
    let parts = gap (comparisons_rise oids ascend oid) in
    let k = at.0 in
    let same : nat_cmp (get_or oids k oid).0 oid.0 ≡ Equal = ap (λ (e : Oid). nat_cmp e.0 oid.0) at.2 ∙ tied_itself nat_cmp_total oid.0 in
    elim (cases_lt k place) [
      | inl before ↦ omega (arith, ap ordering_index (sym (parts.0 k oid (omega arith) before) ∙ same))
      | inr after ↦ omega (arith, ap ordering_index (sym (parts.1 k oid after at.1) ∙ same))
    ]
