-- States of an automaton as the marks of an object.
use Rattle.std.specs.Prelude.{◌≡◌, ◌==◌, ℕ, zero, suc, ◌<◌, ◌⊎◌, true, refl}
use Rattle.std.specs.Int.{bit_at}
use Rattle.std.proofs.Common.{inl, inr, arith}
use Rattle.std.proofs.lemmas.Bool.{eqb-true}
use Rattle.std.proofs.lemmas.Nat.Bits.{bit_at-lt}
use Rattle.path_expr.specs.Machines.{IsIn}
use Rattle.product_walk.specs.Types.{Oid, States, StateMarks}

-- the state is in the set
abbrev pub HasState : StateMarks → ℕ → Type 0
HasState set state = IsIn set.0 state

abbrev pub marks : States → StateMarks
marks states = record { 0 = states }

-- a state is in a set, or it isn't
pub told_in : (states : States) (state : ℕ) → IsIn states state ⊎ (IsIn states state → ⊥)
told_in states state = by (bit_at states.0 state) (bit_at-lt states.0 state) refl
  where
    by : (bit : ℕ) → bit < 2 → bit_at states.0 state ≡ bit → IsIn states state ⊎ (IsIn states state → ⊥)
    by zero below is = inr (λ h. omega (arith, is, h))
    by (suc bit) below is = inl (omega (arith, is, below))

-- objects of one number are one object
pub same_oid : (a b : Oid) → (a.0 == b.0) ≡ true → a ≡ b
same_oid a b h = (let is = eqb-true a.0 b.0 h in λ i. record { 0 = is i })
