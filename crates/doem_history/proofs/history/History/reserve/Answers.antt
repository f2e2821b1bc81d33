use Rattle.doem_history.proofs.PlanLaws.{same_moments, same_appends}
use Rattle.doem_history.proofs.history.History.reserve.Goals as goal

pub returns-clause-moments : goal.returns-clause-moments
returns-clause-moments c = same_moments _ _ c.make_room.ensures.same

pub returns-clause-appends : goal.returns-clause-appends
returns-clause-appends c after appends = same_appends _ _ c.make_room.ensures.same _ after appends
