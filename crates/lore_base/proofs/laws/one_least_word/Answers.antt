use Rattle.lore_base.proofs.LeastWordLaws.{one_least_word}
use Rattle.lore_base.proofs.laws.one_least_word.Goals as goal

pub returns : goal.returns
returns c = one_least_word
