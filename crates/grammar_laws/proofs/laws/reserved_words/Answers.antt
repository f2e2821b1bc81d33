use Rattle.grammar_laws.proofs.ReservedLaws.{keeps_reserved}
use Rattle.grammar_laws.proofs.laws.reserved_words.Goals as goal

pub returns : goal.returns
returns c = keeps_reserved
