use Rattle.lore_base.proofs.SpellLaws.{joins_its_parts}
use Rattle.lore_base.proofs.laws.sequences_join_their_parts.Goals as goal

pub returns : goal.returns
returns c = joins_its_parts
