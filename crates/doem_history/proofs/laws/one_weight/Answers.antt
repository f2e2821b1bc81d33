use Rattle.doem_history.proofs.HistoryLaws.{one_history_weight}
use Rattle.doem_history.proofs.laws.one_weight.Goals as goal

pub returns : goal.returns
returns c = one_history_weight
