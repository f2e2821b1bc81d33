use Rattle.lorel_lex.proofs.TokenLaws.{one_outcome}
use Rattle.lorel_lex.proofs.laws.one_outcome.Goals as goal

pub returns : goal.returns
returns c = one_outcome
