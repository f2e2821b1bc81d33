use Rattle.std.proofs.Common.{◌≡◌, ℕ, List, take}
use Rattle.doem_history.specs.inside.Chains.{LinkedRuns}
use Rattle.doem_history.specs.inside.Kept.{ended}
use Rattle.doem_history.proofs.run_chains.RunChains.end_all.Given as goal

pub record SoFar {F : Type 0} (now old : LinkedRuns F) (moment : ℕ) (places : List ℕ) : Type 0 where
  pub runs : now.runs ≡ ended moment places old.runs
  pub room : now.room ≡ old.room

abbrev pub invariant-places : goal.invariant-places
invariant-places g l = SoFar l.self l.fn.self l.moment (take l.place-index l.places)
