-- What a read and a write may answer.
use Rattle.std.specs.Prelude.{◌≡◌, ℕ, ◌<◌, ◌≤◌, List, length, Result, IfOk, OnOk, OnErr}
use Rattle.lore_lists.specs.Causes.{Rose}

-- a count of faults never falls, stays at Ok and has risen at a fault
pub record HasCause {A E : Type 0} (before now : ℕ) (result : Result A E) : Type 0 where
  pub later : before ≤ now
  pub ok : OnOk result (now ≡ before)
  pub failed : OnErr result (Rose before now)

-- a write takes at most the piece, and at least one byte of a piece that isn't empty
abbrev pub Accepts : {E : Type 0} → Result ℕ E → List ℕ → Type 0
Accepts result piece = IfOk result (λ count. (count ≤ length piece) × (0 < length piece → 0 < count))
