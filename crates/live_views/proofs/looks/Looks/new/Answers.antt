use Rattle.live_views.proofs.LookLaws.{LooksAt-none}
use Rattle.live_views.proofs.looks.Looks.new.Goals as goal

pub returns-clause-places : goal.returns-clause-places
returns-clause-places c = LooksAt-none _ c.new.ensures c.new-2.ensures.patterns c.new-2.ensures.any
