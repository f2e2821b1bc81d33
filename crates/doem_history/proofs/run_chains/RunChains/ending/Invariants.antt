use Rattle.std.proofs.Common.{take}
use Rattle.doem_history.specs.Plans.{AreEnding}
use Rattle.doem_history.proofs.run_chains.RunChains.ending.Given as goal

abbrev pub invariant-gone : goal.invariant-gone
invariant-gone g l = AreEnding l.self.runs (take l.fact-index l.gone) l.places.items
