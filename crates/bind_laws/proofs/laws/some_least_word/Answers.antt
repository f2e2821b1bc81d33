use Rattle.bind_laws.proofs.LeastWordLaws.{has_some_least_word}
use Rattle.bind_laws.proofs.laws.some_least_word.Goals as goal

pub returns : goal.returns
returns c = has_some_least_word
