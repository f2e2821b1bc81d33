use Rattle.bind_laws.proofs.RefusalLaws.{has_one_verdict}
use Rattle.bind_laws.proofs.laws.one_verdict.Goals as goal

pub returns : goal.returns
returns c = has_one_verdict
