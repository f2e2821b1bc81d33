-- Causes that are told one after another: whether one applies need only be told where none before it does.
use Rattle.std.proofs.Common.{◌⊎◌, inl, inr, List, [], ◌∷◌, ◌++◌, refl}
use Rattle.lore_base.specs.Verdicts.{IsFirst, IsClear}
use Rattle.lore_base.proofs.ToldLaws.{IsTold}
use Rattle.statements.specs.Types.{Refusal}

module _ (Applies : Refusal → Type 0) where
  -- it is told of each whether it applies, where none before it does
  abbrev pub AreTold : List Refusal → Type 0
  AreTold [] = Unit {0}
  AreTold (next ∷ others) = IsTold (Applies next) × ((Applies next → ⊥) → AreTold others)

  abbrev pub IsVerdict : List Refusal → Type 0
  IsVerdict order = IsClear Applies order ⊎ ((refusal : Refusal) × IsFirst Applies order refusal)

  -- then none applies, or one is the first
  pub some_verdict : (order : List Refusal) → AreTold order → IsVerdict order
  some_verdict [] told = inl tt
  some_verdict (next ∷ others) (inl applies, later) = inr (next, inl (applies, refl))
  some_verdict (next ∷ others) (inr none, later) = elim (some_verdict others (later none)) [
    | inl clear ↦ inl (none, clear)
    | inr first ↦ inr (first.0, inr (none, first.1))
  ]

  -- and so they are told by a verdict
  pub told_from_verdict : (order : List Refusal) → IsVerdict order → AreTold order
  told_from_verdict [] verdict = tt
  told_from_verdict (next ∷ others) (inl clear) = (inr clear.0, λ none. told_from_verdict others (inl clear.1))
  told_from_verdict (next ∷ others) (inr (refusal, inl first)) = (inl first.0, λ none. absurd (none first.0))
  told_from_verdict (next ∷ others) (inr (refusal, inr later)) =
      (inr later.0, λ none. told_from_verdict others (inr (refusal, later.1)))

  -- where none ever applies
  pub told_of_none : ((refusal : Refusal) → Applies refusal → ⊥) → (order : List Refusal) → AreTold order
  told_of_none none [] = tt
  told_of_none none (next ∷ others) = (inr (none next), λ h. told_of_none none others)

  -- an order in two parts
  pub told_append : (front back : List Refusal) → AreTold front → (IsClear Applies front → AreTold back)
      → AreTold (front ++ back)
  told_append [] back told later = later tt
  told_append (next ∷ front) back told later =
      (told.0, λ none. told_append front back (told.1 none) (λ clear. later (none, clear)))
