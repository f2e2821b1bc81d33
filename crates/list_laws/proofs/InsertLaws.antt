-- Items put at their places among others, in an order in which different items may be equal.
use Rattle.std.proofs.Common.{◌≡◌, ◌⊎◌, inl, inr, Less, Equal, Greater, List, [], ◌∷◌, AllPairs, Contains, subst, refl, ap, ◌∙◌}
use Rattle.std.specs.declared.cmp.Ordering.{Ordering}
use Rattle.std.specs.Ordering.{match_ordering, ordering_reverse}
use Rattle.std.specs.BTreeSet.{insert_key}
use Rattle.std.specs.Cmp.{IsTotalOrder}
use Rattle.std.proofs.lemmas.List.Elements.{Contains-get_or}
use Rattle.std.proofs.lemmas.List.Kept.{AllPairs-cons}
use Rattle.lore_lists.proofs.ListLaws.{AllPairs-tail, AllPairs-head}
use Rattle.lore_lists.proofs.MemberLaws.{Contains-none, Contains-head, Contains-tail, Contains-cases, Contains-same}

module _ {X : Type 0} (cmp : X → X → Ordering) where
  -- what stands in a list into which an item was put
  pub Contains-from_insert_key : (xs : List X) (x other : X) → Contains (insert_key cmp xs x) other → Contains xs other ⊎ (x ≡ other)
  Contains-from_insert_key [] x other at = elim (Contains-cases x [] other at) [ inl same ↦ inr same | inr none ↦ inl none ]
  Contains-from_insert_key (first ∷ xs) x other at =
      elim (cmp x first) as (λ o. Contains (match_ordering o (x ∷ first ∷ xs) (first ∷ xs) (first ∷ insert_key cmp xs x)) other → Contains (first ∷ xs) other ⊎ (x ≡ other)) [
        | Less ↦ λ here. elim (Contains-cases x (first ∷ xs) other here) [ inl same ↦ inr same | inr later ↦ inl later ]
        | Equal ↦ λ here. inl here
        | Greater ↦ λ here. elim (Contains-cases first (insert_key cmp xs x) other here) [
          | inl same ↦ inl (Contains-same (first ∷ xs) first other same (Contains-head first xs))
          | inr later ↦ elim (Contains-from_insert_key xs x other later) [ inl at ↦ inl (Contains-tail first xs other at) | inr same ↦ inr same ]
        ]
      ] at

  pub Contains-insert_key : (xs : List X) (x other : X) → Contains xs other → Contains (insert_key cmp xs x) other
  Contains-insert_key [] x other at = absurd (Contains-none other at)
  Contains-insert_key (first ∷ xs) x other at =
      elim (cmp x first) as (λ o. Contains (match_ordering o (x ∷ first ∷ xs) (first ∷ xs) (first ∷ insert_key cmp xs x)) other) [
        | Less ↦ Contains-tail x (first ∷ xs) other at
        | Equal ↦ at
        | Greater ↦ elim (Contains-cases first xs other at) [
          | inl same ↦ Contains-same (first ∷ insert_key cmp xs x) first other same (Contains-head first (insert_key cmp xs x))
          | inr later ↦ Contains-tail first (insert_key cmp xs x) other (Contains-insert_key xs x other later)
        ]
      ]

  -- an item stands where it was put, if no other one is equal
  pub insert_key-contains_new : (xs : List X) (x : X) → ((other : X) → Contains xs other → cmp x other ≡ Equal → other ≡ x) → Contains (insert_key cmp xs x) x
  insert_key-contains_new [] x alone = Contains-head x []
  insert_key-contains_new (first ∷ xs) x alone =
      elim (cmp x first) as (λ o. cmp x first ≡ o → Contains (match_ordering o (x ∷ first ∷ xs) (first ∷ xs) (first ∷ insert_key cmp xs x)) x) [
        | Less ↦ λ less. Contains-head x (first ∷ xs)
        | Equal ↦ λ equal. Contains-same (first ∷ xs) first x (alone first (Contains-head first xs) equal) (Contains-head first xs)
        | Greater ↦ λ greater. Contains-tail first (insert_key cmp xs x) x
            (insert_key-contains_new xs x (λ other at equal. alone other (Contains-tail first xs other at) equal))
      ] refl

  module _ (total : IsTotalOrder cmp) where
    -- an item before ascending ones that are all above it
    ascend-cons : (x : X) (xs : List X) → ((other : X) → Contains xs other → cmp x other ≡ Less)
        → AllPairs (λ a b. cmp a b ≡ Less) xs → AllPairs (λ a b. cmp a b ≡ Less) (x ∷ xs)
    ascend-cons x xs above ascend =
        AllPairs-cons (λ a b. cmp a b ≡ Less) x xs (λ k d lt. above _ (Contains-get_or xs k d lt)) ascend

    pub AllPairs-insert_key : (xs : List X) (x : X) → AllPairs (λ a b. cmp a b ≡ Less) xs
        → AllPairs (λ a b. cmp a b ≡ Less) (insert_key cmp xs x)
    AllPairs-insert_key [] x ascend = ascend-cons x [] (λ other at. absurd (Contains-none other at)) ascend
    AllPairs-insert_key (first ∷ xs) x ascend =
        let others = AllPairs-insert_key xs x (AllPairs-tail (λ a b. cmp a b ≡ Less) first xs ascend) in
        let above = AllPairs-head (λ a b. cmp a b ≡ Less) first xs ascend in
        elim (cmp x first) as (λ o. cmp x first ≡ o → AllPairs (λ a b. cmp a b ≡ Less) (match_ordering o (x ∷ first ∷ xs) (first ∷ xs) (first ∷ insert_key cmp xs x))) [
          | Less ↦ λ less. ascend-cons x (first ∷ xs) (λ other at. elim (Contains-cases first xs other at) [
            | inl same ↦ subst (λ (y : X). cmp x y ≡ Less) same less
            | inr later ↦ total.trans x first other less (above other later)
          ]) ascend
          | Equal ↦ λ equal. ascend
          | Greater ↦ λ greater. ascend-cons first (insert_key cmp xs x) (λ other at. elim (Contains-from_insert_key xs x other at) [
            | inl later ↦ above other later
            | inr same ↦ subst (λ (y : X). cmp first y ≡ Less) same (total.antisymm first x ∙ ap ordering_reverse greater)
          ]) others
        ] refl
