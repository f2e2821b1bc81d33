use Rattle.grammar_laws.proofs.LongestLaws.{takes_last}
use Rattle.grammar_laws.proofs.laws.targets_lose_a_label.Goals as goal

pub returns : goal.returns
returns c = takes_last
