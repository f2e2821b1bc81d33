-- Orders of refusals in parts: what is told of a part is told of the whole, also where causes that don't apply come
-- between; and the same causes in other words.
use Rattle.std.proofs.Common.{◌↔◌, ◌⊎◌, inl, inr, List, [], ◌∷◌, ◌++◌, Option, Some, None}
use Rattle.lore_base.specs.Verdicts.{IsFirst, IsClear, IsToldBy}
use Rattle.lore_base.proofs.VerdictLaws.{first_left, first_right, clear_left, clear_right, clear_both}
use Rattle.statements.specs.Types.{Refusal}

module _ (Applies : Refusal → Type 0) where
  pub told_left : (front back : List Refusal) (told : Option Refusal) → IsToldBy Applies front told → IsToldBy Applies (front ++ back) told
  told_left front back None h = tt
  told_left front back (Some refusal) h = first_left Applies front back refusal h

  pub told_right : (front back : List Refusal) (told : Option Refusal) → IsClear Applies front → IsToldBy Applies back told
      → IsToldBy Applies (front ++ back) told
  told_right front back None clear h = tt
  told_right front back (Some refusal) clear h = first_right Applies front back refusal clear h

  -- the first of a list in two parts is the first of the one, or none of these applies and it is the first of the other
  pub first_split : (front back : List Refusal) (first : Refusal) → IsFirst Applies (front ++ back) first
      → IsFirst Applies front first ⊎ (IsClear Applies front × IsFirst Applies back first)
  first_split [] back first h = inr (tt, h)
  first_split (next ∷ front) back first (inl h) = inl (inl h)
  first_split (next ∷ front) back first (inr h) = elim (first_split front back first h.1) [
    | inl own ↦ inl (inr (h.0, own))
    | inr behind ↦ inr ((h.0, behind.0), behind.1)
  ]

  -- causes that don't apply, between others
  first_between : (front middle back : List Refusal) (first : Refusal) → IsClear Applies middle → IsFirst Applies (front ++ back) first
      → IsFirst Applies (front ++ (middle ++ back)) first
  first_between [] middle back first clear h = first_right Applies middle back first clear h
  first_between (next ∷ front) middle back first clear (inl h) = inl h
  first_between (next ∷ front) middle back first clear (inr h) = inr (h.0, first_between front middle back first clear h.1)

  pub told_between : (front middle back : List Refusal) (told : Option Refusal) → IsClear Applies middle → IsToldBy Applies (front ++ back) told
      → IsToldBy Applies (front ++ (middle ++ back)) told
  told_between front middle back None clear h = tt
  told_between front middle back (Some refusal) clear h = first_between front middle back refusal clear h

  pub clear_between : (front middle back : List Refusal) → IsClear Applies middle → IsClear Applies (front ++ back)
      → IsClear Applies (front ++ (middle ++ back))
  clear_between front middle back clear h =
      clear_both Applies front (middle ++ back) (clear_left Applies front back h)
      (clear_both Applies middle back clear (clear_right Applies front back h))

  -- causes that don't apply, left out at the front
  first_behind : (front back : List Refusal) (first : Refusal) → IsClear Applies front → IsFirst Applies (front ++ back) first → IsFirst Applies back first
  first_behind [] back first clear h = h
  first_behind (next ∷ front) back first clear (inl h) = absurd (clear.0 h.0)
  first_behind (next ∷ front) back first clear (inr h) = first_behind front back first clear.1 h.1

  pub told_behind : (front back : List Refusal) (told : Option Refusal) → IsClear Applies front → IsToldBy Applies (front ++ back) told
      → IsToldBy Applies back told
  told_behind front back None clear h = tt
  told_behind front back (Some refusal) clear h = first_behind front back refusal clear h

-- the same causes of the refusals that are listed
module _ (Applies Holds : Refusal → Type 0) where
  abbrev pub AreAlike : List Refusal → Type 0
  AreAlike [] = Unit {0}
  AreAlike (next ∷ others) = (Applies next ↔ Holds next) × AreAlike others

  pub clear_alike : (order : List Refusal) → AreAlike order → IsClear Applies order → IsClear Holds order
  clear_alike [] alike clear = tt
  clear_alike (next ∷ others) alike clear = (λ holds. clear.0 (alike.0.1 holds), clear_alike others alike.1 clear.1)

  first_alike : (order : List Refusal) (first : Refusal) → AreAlike order → IsFirst Applies order first → IsFirst Holds order first
  first_alike [] first alike h = h
  first_alike (next ∷ others) first alike (inl h) = inl (alike.0.0 h.0, h.1)
  first_alike (next ∷ others) first alike (inr h) = inr (λ holds. h.0 (alike.0.1 holds), first_alike others first alike.1 h.1)

  pub told_alike : (order : List Refusal) (told : Option Refusal) → AreAlike order → IsToldBy Applies order told → IsToldBy Holds order told
  told_alike order None alike h = tt
  told_alike order (Some refusal) alike h = first_alike order refusal alike h
