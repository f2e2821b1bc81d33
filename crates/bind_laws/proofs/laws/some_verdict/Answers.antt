use Rattle.bind_laws.proofs.RefusalLaws.{has_some_verdict}
use Rattle.bind_laws.proofs.laws.some_verdict.Goals as goal

pub returns : goal.returns
returns c = has_some_verdict
