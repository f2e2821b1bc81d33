use Rattle.lorel_lex.proofs.ReadBackLaws.{read_back, line_read_back}
use Rattle.lorel_lex.proofs.laws.written_tokens.Goals as goal

pub returns-clause-any : goal.returns-clause-any
returns-clause-any c = read_back

pub returns-clause-line : goal.returns-clause-line
returns-clause-line c = line_read_back
