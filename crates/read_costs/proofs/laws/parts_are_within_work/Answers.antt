use Rattle.read_costs.proofs.WorkLaws.{parts_are_within_work}
use Rattle.read_costs.proofs.laws.parts_are_within_work.Goals as goal

pub returns : goal.returns
returns c = parts_are_within_work
