use Rattle.grammar_laws.proofs.ChoiceLaws.{reaches_limit}
use Rattle.grammar_laws.proofs.laws.nesting_reaches_its_limit.Goals as goal

pub returns : goal.returns
returns c = reaches_limit
