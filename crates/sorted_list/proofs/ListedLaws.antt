-- Which items of an ascending list are told by their comparisons, and what stays of a list without them.
use Rattle.std.proofs.Common.{◌≡◌, ℕ, ◌<◌, ◌↔◌, true, false, not, Less, Equal, Greater, Err, List, length, get_or, Contains, refl, sym, ap, ◌∙◌, inl, inr, arith}
use Rattle.std.specs.declared.cmp.Ordering.{Ordering}
use Rattle.std.specs.Cmp.{IsTotalOrder}
use Rattle.std.specs.Ordering.{is_eq, ordering_index, ordering_reverse}
use Rattle.std.specs.List.Sorted.{IsBinarySearchResult, IsNonDecreasingBy}
use Rattle.std.proofs.lemmas.Bool.{true≢false, cases_lt}
use Rattle.std.proofs.lemmas.Cmp.{tied_itself}
use Rattle.std.proofs.lemmas.List.Folds.{Any-from_list_any, list_any_at, list_any_none}
use Rattle.std.proofs.lemmas.List.Kept.{AllPairs-filter}
use Rattle.lore_lists.proofs.MemberLaws.{Contains-same, Contains-filter, unfiltered}
use Rattle.list_laws.proofs.OrderLaws.{Equal-from_test, comparison_rises}
use Rattle.sorted_list.specs.SortedLists.{Ascends, IsExact}
use Rattle.sorted_list.specs.inside.Listed.{is_listed, staying}

module _ {T : Type 0} (cmp : T → T → Ordering) (total : IsTotalOrder cmp) where
  -- what stands at a place where a search ended
  pub found : (items : List T) (item : T) (place : ℕ) (d : T) → place < length items → cmp (get_or items place d) item ≡ Equal → is_listed cmp items item ≡ true
  found items item place d lt equal = list_any_at (λ other. is_eq (cmp other item)) items place d lt (ap is_eq equal)

  -- what comes behind another compares as greater
  pub behind : (a b : T) → cmp a b ≡ Less → cmp b a ≡ Greater
  behind a b less = total.antisymm b a ∙ ap ordering_reverse less

  pub comparisons_rise : (items : List T) → Ascends cmp items → (x : T) → IsNonDecreasingBy (λ item. ordering_index (cmp item x)) items
  comparisons_rise items ascend x i j d le lt = elim (cases_lt i j) [
    | inl before ↦ comparison_rises cmp total (get_or items i d) (get_or items j d) x (ascend i j d before lt)
    | inr ge ↦ let same : i ≡ j = omega arith in omega (arith, ap (λ k. ordering_index (cmp (get_or items k d) x)) same)
  ]

  -- where a search ended at a gap
  pub not_found : (items : List T) → Ascends cmp items → (item : T) (place : ℕ) → IsBinarySearchResult (λ other. cmp other item) items (Err place)
      → is_listed cmp items item ≡ false
  not_found items ascend item place gap =
      let parts = gap (comparisons_rise items ascend item) in
      list_any_none (λ other. is_eq (cmp other item)) items (λ k d lt. elim (cases_lt k place) [
        | inl before ↦ ap is_eq (parts.0 k d (omega arith) before)
        | inr after ↦ ap is_eq (parts.1 k d after lt)
      ])

  module _ (exact : IsExact cmp) where
    pub listed : (items : List T) (item : T) → Contains items item → is_listed cmp items item ≡ true
    listed items item at = found items item at.0 item at.1 (ap (λ (other : T). cmp other item) at.2 ∙ tied_itself total item)

    pub unlisted : (items : List T) (item : T) → is_listed cmp items item ≡ true → Contains items item
    unlisted items item h =
        let any = Any-from_list_any (λ other. is_eq (cmp other item)) items h in
        let same = exact any.1 item (Equal-from_test _ any.4) in
        Contains-same items any.1 item same (any.0, any.2, any.3)

    -- what stays is kept and does not go
    pub stays : (gone items : List T) (item : T) → Contains (staying cmp gone items) item ↔ (Contains items item × (Contains gone item → ⊥))
    stays gone items item = (
      λ at. (
          let passed = unfiltered (λ other. not (is_listed cmp gone other)) items item at in
          (passed.0, λ goes. true≢false (sym passed.1 ∙ ap not (listed gone item goes)))),
      λ both. elim (is_listed cmp gone item) as (λ b. is_listed cmp gone item ≡ b → Contains (staying cmp gone items) item) [
        | true ↦ λ yes. absurd (both.1 (unlisted gone item yes))
        | false ↦ λ no. Contains-filter (λ other. not (is_listed cmp gone other)) items item both.0 (ap not no)
      ] refl,
    )

-- what stays ascends as before, by whatever order those that go are told
pub staying-ascends : {T : Type 0} (cmp listed : T → T → Ordering) (gone items : List T) → Ascends cmp items → Ascends cmp (staying listed gone items)
staying-ascends cmp listed gone items ascend = AllPairs-filter (λ a b. cmp a b ≡ Less) (λ item. not (is_listed listed gone item)) items ascend
