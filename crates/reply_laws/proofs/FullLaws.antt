-- Whether a history is full can be told.
use Rattle.std.proofs.Common.{ℕ, ◌+◌, ◌<◌, ◌≤◌, inl, inr, List, length, All, arith}
use Rattle.std.proofs.lemmas.Bool.{cases_lt}
use Rattle.lore_base.proofs.ToldLaws.{IsTold}
use Rattle.doem_history.specs.Types.{MOMENTS, HISTORY_WEIGHT}
use Rattle.doem_history.specs.Moments.{Moment, IsInOrder, IsHistoryWeight, IsFull}
use Rattle.doem_history.specs.Laws.{HaveOneWeight, HaveSomeWeight}

module _ (one : HaveOneWeight) (some : HaveSomeWeight) (moments : List Moment) (ordered : All IsInOrder moments) (filled : 0 < length moments) where
  -- few moments have a weight, which is too much or isn't
  weighed : length moments ≤ MOMENTS + 1 → (weight : ℕ) → IsHistoryWeight moments weight → IsTold (IsFull moments)
  weighed few weight is = elim (cases_lt HISTORY_WEIGHT weight) [
    | inl heavy ↦ inl (inr (weight, is, heavy))
    | inr light ↦ inr (λ full. elim full [
      | inl many ↦ absurd (omega (arith, many, few))
      | inr heavy ↦
          (let same = one moments heavy.0 weight heavy.1 is in
          let more = heavy.2 in
          absurd (omega (arith, same, more, light)))
    ])
  ]

  pub full_told : IsTold (IsFull moments)
  full_told = elim (cases_lt (MOMENTS + 1) (length moments)) [
    | inl many ↦ inl (inl many)
    | inr few ↦
        (let found = some moments (record { ordered = ordered; some = filled; few = few }) in
        weighed few found.0 found.1)
  ]
