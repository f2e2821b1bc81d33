use Rattle.lorel_lex.proofs.ReadBackLaws.{quotes_read_back}
use Rattle.lorel_lex.proofs.laws.written_quotes.Goals as goal

pub returns : goal.returns
returns c = quotes_read_back
