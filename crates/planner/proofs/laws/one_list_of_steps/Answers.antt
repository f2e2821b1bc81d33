use Rattle.planner.proofs.OneLaws.{has_one_plan}
use Rattle.planner.proofs.laws.one_list_of_steps.Goals as goal

pub returns : goal.returns
returns c = has_one_plan
