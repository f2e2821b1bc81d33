-- Costs that are told by what was paid for.
use Rattle.std.specs.Prelude.{◌≢◌, ℕ, ◌+◌, ◌≤◌, List, sum_by, All, AllPairs}

-- what a count has risen by is within the cost of some things that pass, each paid for once
pub record IsSpent {X : Type 0} (Passes : X → Type 0) (cost : X → ℕ) (before now : ℕ) : Type 0 where
  pub paid : List X
  pub apart : AllPairs (λ a b. a ≢ b) paid
  pub among : All Passes paid
  pub within : now ≤ before + sum_by cost paid
