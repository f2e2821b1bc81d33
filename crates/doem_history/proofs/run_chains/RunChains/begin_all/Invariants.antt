use Rattle.std.proofs.Common.{◌≡◌, ℕ, ◌+◌, ◌≤◌, List, length, ◌++◌}
use Rattle.doem_history.specs.inside.Chains.{LinkedRuns}
use Rattle.doem_history.specs.inside.Kept.{begun}
use Rattle.doem_history.proofs.run_chains.RunChains.begin_all.Given as goal

pub record SoFar {F : Type 0} (now old : LinkedRuns F) (moment : ℕ) (come : List F) : Type 0 where
  pub runs : now.runs ≡ old.runs ++ begun moment come
  pub room : old.room ≤ now.room + length come

abbrev pub invariant-come : goal.invariant-come
invariant-come g l = SoFar l.self l.fn.self l.moment l.yielded
