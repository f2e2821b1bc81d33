-- Two ascending lists, read side by side: an object of both stands behind the places that were read.
use Rattle.std.proofs.Common.{◌≡◌, ℕ, ◌+◌, ◌<◌, ◌≤◌, ◌⊎◌, inl, inr, List, length, get_or, drop, AllPairs, Contains, subst, ap, arith, length-drop}
use Rattle.std.proofs.lemmas.List.{get_or-drop, drop_more, drop_all}
use Rattle.lore_base.proofs.ListLaws.{AllPairs-head}
use Rattle.lore_base.proofs.MemberLaws.{Contains-none, Contains-cases}
use Rattle.lorel_eval.specs.Types.{Oid}

-- what stands from a place on stands there or behind it
here_or_behind : (xs : List Oid) (i : ℕ) (d oid : Oid) → i < length xs → Contains (drop i xs) oid
    → (get_or xs i d ≡ oid) ⊎ Contains (drop (i + 1) xs) oid
here_or_behind xs i d oid low at =
    Contains-cases (get_or xs i d) (drop (i + 1) xs) oid (subst (λ (l : List Oid). Contains l oid) (drop_more xs i d low) at)

-- nothing stands behind the last place
pub none_behind : (xs : List Oid) (i : ℕ) (oid : Oid) → length xs ≤ i → Contains (drop i xs) oid → ⊥
none_behind xs i oid past at = Contains-none oid (subst (λ (l : List Oid). Contains l oid) (drop_all i xs past) at)

-- what is left of an ascending list ascends
AllPairs-drop : (xs : List Oid) (i : ℕ) → AllPairs (λ a b. a.0 < b.0) xs → AllPairs (λ a b. a.0 < b.0) (drop i xs)
AllPairs-drop xs i ascend a b d below within =
    let left = length-drop i xs in
    rw (get_or-drop i xs a d, get_or-drop i xs b d) (ascend (i + a) (i + b) d (omega (arith, below)) (omega (arith, within, left)))

-- what stands behind a place is greater than what stands there
behind_greater : (xs : List Oid) (i : ℕ) (d oid : Oid) → AllPairs (λ a b. a.0 < b.0) xs → i < length xs
    → Contains (drop (i + 1) xs) oid → (get_or xs i d).0 < oid.0
behind_greater xs i d oid ascend low at =
    let left = subst (λ (l : List Oid). AllPairs (λ a b. a.0 < b.0) l) (drop_more xs i d low) (AllPairs-drop xs i ascend) in
    AllPairs-head (λ a b. a.0 < b.0) (get_or xs i d) (drop (i + 1) xs) left oid at

-- what stands in both stands behind the lesser of the two that are read
pub passes_lesser : (xs ys : List Oid) (i j : ℕ) (d oid : Oid) → AllPairs (λ a b. a.0 < b.0) ys → i < length xs → j < length ys
    → (get_or xs i d).0 < (get_or ys j d).0 → Contains (drop i xs) oid → Contains (drop j ys) oid → Contains (drop (i + 1) xs) oid
passes_lesser xs ys i j d oid ascend low_i low_j less in_xs in_ys =
    elim (here_or_behind xs i d oid low_i in_xs) [
      | inr behind ↦ behind
      | inl same ↦
          let equal = ap (λ (o : Oid). o.0) same in
          elim (here_or_behind ys j d oid low_j in_ys) [
            | inl other ↦ let equal_too = ap (λ (o : Oid). o.0) other in absurd (omega (arith, less, equal, equal_too))
            | inr behind ↦ let greater = behind_greater ys j d oid ascend low_j behind in absurd (omega (arith, less, greater, equal))
          ]
    ]
