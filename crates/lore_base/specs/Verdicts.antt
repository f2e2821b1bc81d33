-- Verdicts on a statement: causes of refusals are tried in an order, and the first that applies counts.
use Rattle.std.specs.Prelude.{◌≡◌, ◌⊎◌, List, [], ◌∷◌, Option, MatchOption}
use Rattle.lore_base.specs.Types.{Refusal}

module _ (Applies : Refusal → Type 0) where
  -- this is the first that applies
  abbrev pub IsFirst : List Refusal → Refusal → Type 0
  IsFirst [] refusal = ⊥
  IsFirst (next ∷ others) refusal =
      (Applies next × (refusal ≡ next)) ⊎ ((Applies next → ⊥) × IsFirst others refusal)

  -- none applies
  abbrev pub IsClear : List Refusal → Type 0
  IsClear [] = Unit {0}
  IsClear (next ∷ others) = (Applies next → ⊥) × IsClear others

  -- what a fault is answered with: the first that applies, or nothing for want of memory
  abbrev pub IsToldBy : List Refusal → Option Refusal → Type 0
  IsToldBy order told = MatchOption told (Unit {0}) (IsFirst order)
