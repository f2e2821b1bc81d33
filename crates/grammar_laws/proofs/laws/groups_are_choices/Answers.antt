use Rattle.grammar_laws.proofs.ChoiceLaws.{makes_choice}
use Rattle.grammar_laws.proofs.laws.groups_are_choices.Goals as goal

pub returns : goal.returns
returns c = makes_choice
