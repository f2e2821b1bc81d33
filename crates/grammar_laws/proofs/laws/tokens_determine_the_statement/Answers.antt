use Rattle.grammar_laws.proofs.UniqueStatementLaws.{determined}
use Rattle.grammar_laws.proofs.laws.tokens_determine_the_statement.Goals as goal

pub returns : goal.returns
returns c = determined
