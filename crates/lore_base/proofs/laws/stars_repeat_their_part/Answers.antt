use Rattle.lore_base.proofs.SpellLaws.{repeats_its_part}
use Rattle.lore_base.proofs.laws.stars_repeat_their_part.Goals as goal

pub returns : goal.returns
returns c = repeats_its_part
