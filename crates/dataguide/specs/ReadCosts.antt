-- What it costs to read target sets.
use Rattle.std.specs.Prelude.{◌≡◌, ◌≢◌, ℕ, ◌+◌, ◌≤◌, List, length, sum_by, All, AllPairs}
use Rattle.lore_base.specs.TargetSets.{IsLedTo}
use Rattle.set_steps.specs.SetSteps.{reads_of}
use Rattle.dataguide.specs.Types.{Oid, Edge}

-- the steps that were counted are those of reading some target sets, at most as many as the limit, each once
pub record ReadsAtMost (limit : ℕ) (names : List (List ℕ × Oid)) (edges : List Edge) (before now : ℕ) : Type 0 where
  pub sets : List (List Oid)
  pub apart : AllPairs (λ a b. a ≢ b) sets
  pub led : All (IsLedTo names edges) sets
  pub few : length sets ≤ limit
  pub counted : now ≡ before + sum_by (reads_of edges) sets
