use Rattle.lore_base.proofs.SpellLaws.{goes_on}
use Rattle.lore_base.proofs.laws.paths_go_on.Goals as goal

pub returns : goal.returns
returns c = goes_on
