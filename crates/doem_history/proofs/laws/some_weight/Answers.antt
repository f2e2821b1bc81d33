use Rattle.doem_history.proofs.WeightLaws.{some_history_weight}
use Rattle.doem_history.proofs.laws.some_weight.Goals as goal

pub returns : goal.returns
returns c = some_history_weight
