use Rattle.read_costs.proofs.WorkLaws.{work_is_within_all}
use Rattle.read_costs.proofs.laws.work_is_within_all.Goals as goal

pub returns : goal.returns
returns c = work_is_within_all
