-- Entries: how one is found by its name, and that they stay in order.
use Rattle.std.proofs.Common.{◌≡◌, ℕ, ◌<◌, inl, inr, Less, Equal, Err, List, [], ◌∷◌, ◌++◌, length}
use Rattle.std.proofs.Common.{get_or, true, Some, None, All, Contains, refl, sym, ap, ◌∙◌, subst, arith}
use Rattle.std.specs.List.{AllZip, AllByRecursion}
use Rattle.std.specs.List.Sorted.{IsStrictlySortedBy, IsNonDecreasingBy, IsBinarySearchResult}
use Rattle.std.specs.Map.{keys_of}
use Rattle.std.specs.Ordering.{ordering_index, eq_by_cmp}
use Rattle.std.proofs.lemmas.Bool.{cases_lt}
use Rattle.std.proofs.lemmas.Cmp.{nat_list_cmp_total, eq_by_cmp_equiv, tied_itself}
use Rattle.std.proofs.lemmas.Map.Keys.{IsDistinct-from_sorted}
use Rattle.std.proofs.lemmas.Map.Lookups.{exact_bytes}
use Rattle.std.proofs.lemmas.List.Elements.{All-head, All-tail, Contains-get_or}
use Rattle.std.proofs.lemmas.Map.Views.{Contains-from_lookup, lookup-from_Contains, tells_apart}
use Rattle.list_laws.proofs.OrderLaws.{comparison_rises}
use Rattle.lore_base.specs.Bytes.{bytes_cmp}
use Rattle.dataguide.specs.Types.{Oid, Node, GuideNode}
use Rattle.set_explorer.specs.Nodes.{AreAscendingEntries}
use Rattle.dataguide.specs.Guides.{node_of}
use Rattle.set_explorer.proofs.StopLaws.{keys-ascend}

-- names that compare as equal are one
same_name : (first second : List ℕ) → eq_by_cmp bytes_cmp first second ≡ true → first ≡ second
same_name = tells_apart exact_bytes

pub none-ascend : (entries : List (List ℕ × Node)) → entries ≡ [] → AreAscendingEntries entries
unfolding IsStrictlySortedBy
none-ascend entries none = rw none tt

module _ (entries : List (List ℕ × Node)) (name : List ℕ) (ascend : AreAscendingEntries entries) where
  comparisons-rise : IsNonDecreasingBy (λ e. ordering_index (bytes_cmp e.0 name)) entries
  comparisons-rise i j d le lt = elim (cases_lt i j) [
    | inl before ↦ comparison_rises bytes_cmp nat_list_cmp_total (get_or entries i d).0 (get_or entries j d).0 name
        (keys-ascend entries ascend i j d before lt)
    | inr ge ↦ (
        let same : i ≡ j = omega arith in
        omega (arith, ap (λ k. ordering_index (bytes_cmp (get_or entries k d).0 name)) same))
  ]

  -- the entry at a place that compares as equal is the name's
  pub entry-found : (place : ℕ) (d : List ℕ × Node) → place < length entries
      → bytes_cmp (get_or entries place d).0 name ≡ Equal
      → Some (get_or entries place d).1 ≡ node_of entries name
  entry-found place d within equal =
      let node = (get_or entries place d).1 in
      let same : (get_or entries place d).0 ≡ name = exact_bytes (get_or entries place d).0 name equal in
      let there : Contains entries (name, node) =
      subst (λ (n : List ℕ). Contains entries (n, node)) same (Contains-get_or entries place d within) in
      sym (lookup-from_Contains (eq_by_cmp_equiv nat_list_cmp_total) name node entries
      (IsDistinct-from_sorted bytes_cmp (keys_of entries) ascend) there)

  gap-apart : (place : ℕ) → IsBinarySearchResult (λ e. bytes_cmp e.0 name) entries (Err place)
      → (node : Node) → Contains entries (name, node) → ⊥
  gap-apart place gap node there =
      let parts = gap comparisons-rise in
      let k = there.0 in
      let same : bytes_cmp (get_or entries k (name, node)).0 name ≡ Equal =
      ap (λ (e : List ℕ × Node). bytes_cmp e.0 name) there.2 ∙ tied_itself nat_list_cmp_total name in
      elim (cases_lt k place) [
        | inl before ↦ omega (arith, ap ordering_index (sym (parts.0 k (name, node) (omega arith) before) ∙ same))
        | inr after ↦ omega (arith, ap ordering_index (sym (parts.1 k (name, node) after there.1) ∙ same))
      ]

  -- where a search ends at a gap the name isn't bound
  pub entry-none : (place : ℕ) → IsBinarySearchResult (λ e. bytes_cmp e.0 name) entries (Err place)
      → None ≡ node_of entries name
  entry-none place gap =
      elim (node_of entries name) as (λ o. node_of entries name ≡ o → None ≡ o) [
        | None ↦ λ is. refl
        | Some node ↦ λ is. absurd (gap-apart place gap node
            (Contains-from_lookup {eq = eq_by_cmp bytes_cmp} same_name name node entries is))
      ] refl

-- an entry whose name comes after all others is put behind
pub entries-push : (entries : List (List ℕ × Node)) (entry : List ℕ × Node) → AreAscendingEntries entries
    → All (λ e. bytes_cmp e.0 entry.0 ≡ Less) entries → AreAscendingEntries (entries ++ entry ∷ [])
unfolding IsStrictlySortedBy
entries-push [] entry ascend below = (tt, tt)
entries-push (first ∷ entries) entry ascend below = (
  behind first entries ascend.0
      (All-head (λ (e : List ℕ × Node). bytes_cmp e.0 entry.0 ≡ Less) first entries below),
  entries-push entries entry ascend.1
      (All-tail (λ (e : List ℕ × Node). bytes_cmp e.0 entry.0 ≡ Less) first entries below),
)
  where
    behind : (first : List ℕ × Node) (entries : List (List ℕ × Node))
        → AllByRecursion (λ name. bytes_cmp first.0 name ≡ Less) (keys_of entries) → bytes_cmp first.0 entry.0 ≡ Less
        → AllByRecursion (λ name. bytes_cmp first.0 name ≡ Less) (keys_of (entries ++ entry ∷ []))
    behind first [] all less = (less, tt)
    behind first (other ∷ entries) all less = (all.0, behind first entries all.1 less)
