use Rattle.planner.proofs.TakenLaws.{begins_once}
use Rattle.planner.proofs.laws.one_beginning.Goals as goal

pub returns : goal.returns
returns c = begins_once
