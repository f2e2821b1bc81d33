use Rattle.grammar_laws.proofs.CanonStatementLaws.{prints_back}
use Rattle.grammar_laws.proofs.laws.canonical_tokens.Goals as goal

pub returns : goal.returns
returns c = prints_back
