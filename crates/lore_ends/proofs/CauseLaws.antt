-- A count that goes up by one, or stays at its end, rises.
use Rattle.std.proofs.Common.{◌≡◌, ℕ, ◌+◌, ◌-◌, ◌^◌, min, inl, inr, arith}
use Rattle.std.proofs.lemmas.Bool.{cases_lt}
use Rattle.lore_lists.specs.Causes.{Rose}

pub rose : (before now : ℕ) → now ≡ min (before + 1) (2 ^ 64 - 1) → Rose before now
rose before now is = elim (cases_lt before (2 ^ 64 - 1)) [
  | inl below ↦ inl (omega (arith, is))
  | inr above ↦ inr (omega (arith, is))
]
