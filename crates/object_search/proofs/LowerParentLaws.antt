-- What is noted of starts and of children of edges from lower numbers.
use Rattle.std.proofs.Common.{◌≡◌, ℕ, ◌+◌, ◌⊎◌, inl, inr, Bool, true, false, List, get_or, replicate, sym, ap, ◌∙◌, subst, arith, true≢false}
use Rattle.std.proofs.lemmas.Bool.{cases_lt}
use Rattle.std.proofs.lemmas.List.{get_or-replicate, length-replicate}
use Rattle.std.proofs.Math.ListN.{get_or-eq_default}
use Rattle.object_search.specs.Types.{Oid, Edge}
use Rattle.object_search.specs.LowerParents.{IsLed, AreLed}

-- where one more is noted that is led to, what is noted still is
pub noted_more : (starts : List Oid) (edges : List Edge) (first number : ℕ) (old new : List Bool) → IsLed starts edges number
    → ((place : ℕ) → get_or new place false ≡ true → (get_or old place false ≡ true) ⊎ (first + place ≡ number))
    → AreLed starts edges first old → AreLed starts edges first new
noted_more starts edges first number old new led each are place noted = elim (each place noted) [
  | inl before ↦ are place before
  | inr here ↦ subst (IsLed starts edges) (sym here) led
]

-- none is noted at first
pub none_noted : (starts : List Oid) (edges : List Edge) (first count : ℕ) (noted : List Bool) → noted ≡ replicate count false → AreLed starts edges first noted
none_noted starts edges first count noted is place here = absurd (true≢false (sym here ∙ ap (λ (l : List Bool). get_or l place false) is ∙ elim (cases_lt place count) [
  | inl within ↦ get_or-replicate count place false false within
  | inr beyond ↦ get_or-eq_default (replicate count false) false (omega (arith, beyond, length-replicate count false))
]))
