-- Verdicts: at most one refusal is the first that applies, and where one is, the causes aren't clear. Orders in parts.
use Rattle.std.proofs.Common.{◌≡◌, ◌↔◌, inl, inr, List, [], ◌∷◌, ◌++◌, Contains, sym, ◌∙◌, subst}
use Rattle.lore_base.specs.Types.{Refusal}
use Rattle.lore_base.specs.Verdicts.{IsFirst, IsClear}
use Rattle.lore_lists.proofs.MemberLaws.{Contains-head, Contains-tail, Contains-same}

module _ (Applies : Refusal → Type 0) where
  pub one_first : (order : List Refusal) (first other : Refusal) → IsFirst Applies order first → IsFirst Applies order other → first ≡ other
  one_first [] first other h g = absurd h
  one_first (next ∷ others) first other (inl h) (inl g) = h.1 ∙ sym g.1
  one_first (next ∷ others) first other (inl h) (inr g) = absurd (g.0 h.0)
  one_first (next ∷ others) first other (inr h) (inl g) = absurd (h.0 g.0)
  one_first (next ∷ others) first other (inr h) (inr g) = one_first others first other h.1 g.1

  pub first_unclear : (order : List Refusal) (first : Refusal) → IsFirst Applies order first → IsClear Applies order → ⊥
  first_unclear [] first h clear = h
  first_unclear (next ∷ others) first (inl h) clear = clear.0 h.0
  first_unclear (next ∷ others) first (inr h) clear = first_unclear others first h.1 clear.1

  -- the first that applies does apply
  pub first_applies : (order : List Refusal) (first : Refusal) → IsFirst Applies order first → Applies first
  first_applies [] first h = absurd h
  first_applies (next ∷ others) first (inl h) = subst Applies (sym h.1) h.0
  first_applies (next ∷ others) first (inr h) = first_applies others first h.1

  pub first_listed : (order : List Refusal) (first : Refusal) → IsFirst Applies order first → Contains order first
  first_listed [] first h = absurd h
  first_listed (next ∷ others) first (inl h) = Contains-same (next ∷ others) next first (sym h.1) (Contains-head next others)
  first_listed (next ∷ others) first (inr h) = Contains-tail next others first (first_listed others first h.1)

  -- ---- an order in two parts
  pub clear_left : (front back : List Refusal) → IsClear Applies (front ++ back) → IsClear Applies front
  clear_left [] back clear = tt
  clear_left (next ∷ front) back clear = (clear.0, clear_left front back clear.1)

  pub clear_right : (front back : List Refusal) → IsClear Applies (front ++ back) → IsClear Applies back
  clear_right [] back clear = clear
  clear_right (next ∷ front) back clear = clear_right front back clear.1

  pub clear_both : (front back : List Refusal) → IsClear Applies front → IsClear Applies back → IsClear Applies (front ++ back)
  clear_both [] back clear behind = behind
  clear_both (next ∷ front) back clear behind = (clear.0, clear_both front back clear.1 behind)

  pub first_left : (front back : List Refusal) (first : Refusal) → IsFirst Applies front first → IsFirst Applies (front ++ back) first
  first_left [] back first h = absurd h
  first_left (next ∷ front) back first (inl h) = inl h
  first_left (next ∷ front) back first (inr h) = inr (h.0, first_left front back first h.1)

  pub first_right : (front back : List Refusal) (first : Refusal) → IsClear Applies front → IsFirst Applies back first
      → IsFirst Applies (front ++ back) first
  first_right [] back first clear h = h
  first_right (next ∷ front) back first clear h = inr (clear.0, first_right front back first clear.1 h)

-- ---- the same causes in other words
module _ (Applies Holds : Refusal → Type 0) (same : (refusal : Refusal) → Applies refusal ↔ Holds refusal) where
  pub clear_same : (order : List Refusal) → IsClear Applies order → IsClear Holds order
  clear_same [] clear = tt
  clear_same (next ∷ others) clear = (λ holds. clear.0 ((same next).1 holds), clear_same others clear.1)

  pub first_same : (order : List Refusal) (first : Refusal) → IsFirst Applies order first → IsFirst Holds order first
  first_same [] first h = h
  first_same (next ∷ others) first (inl h) = inl ((same next).0 h.0, h.1)
  first_same (next ∷ others) first (inr h) = inr (λ holds. h.0 ((same next).1 holds), first_same others first h.1)
