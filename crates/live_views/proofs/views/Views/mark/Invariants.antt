use Rattle.std.proofs.Common.{None, take, Contains}
use Rattle.live_views.specs.Views.{TurnsRows}
use Rattle.live_views.proofs.views.Views.mark.Given as goal

abbrev pub invariant-names : goal.invariant-names
invariant-names l = TurnsRows (Contains (take l.name-index l.name-items)) None l.fn.self l.self
