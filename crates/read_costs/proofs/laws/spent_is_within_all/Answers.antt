use Rattle.read_costs.proofs.SpentLaws.{spent_is_within_all}
use Rattle.read_costs.proofs.laws.spent_is_within_all.Goals as goal

pub returns : goal.returns
returns c = spent_is_within_all
