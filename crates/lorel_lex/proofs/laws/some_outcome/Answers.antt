use Rattle.lorel_lex.proofs.OutcomeLaws.{some_outcome}
use Rattle.lorel_lex.proofs.laws.some_outcome.Goals as goal

pub returns : goal.returns
returns c = some_outcome
