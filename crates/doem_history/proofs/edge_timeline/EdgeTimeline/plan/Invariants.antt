use Rattle.std.proofs.Common.{take}
use Rattle.doem_history.specs.Plans.{AreEnding}
use Rattle.doem_history.proofs.edge_timeline.EdgeTimeline.plan.Given as goal

abbrev pub invariant-gone : goal.invariant-gone
invariant-gone l = AreEnding l.self.runs (take l.edge-index l.gone) l.places.items
