use Rattle.grammar_laws.proofs.UniqueStatementLaws.{too_deep}
use Rattle.grammar_laws.proofs.laws.nothing_nests_deeper.Goals as goal

pub returns : goal.returns
returns c = too_deep
