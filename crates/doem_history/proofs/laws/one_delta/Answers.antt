use Rattle.doem_history.proofs.DifferLaws.{one_delta}
use Rattle.doem_history.proofs.laws.one_delta.Goals as goal

pub returns : goal.returns
returns c = one_delta
