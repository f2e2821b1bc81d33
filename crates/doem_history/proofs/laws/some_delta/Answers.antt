use Rattle.doem_history.proofs.DifferLaws.{some_delta}
use Rattle.doem_history.proofs.laws.some_delta.Goals as goal

pub returns : goal.returns
returns c = some_delta
