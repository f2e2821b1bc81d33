use Rattle.lore_base.proofs.SpellLaws.{repeats_once_or_more}
use Rattle.lore_base.proofs.laws.pluses_repeat_once_or_more.Goals as goal

pub returns : goal.returns
returns c = repeats_once_or_more
