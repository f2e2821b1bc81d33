use Rattle.grammar_laws.proofs.PartLaws.{sound_parts}
use Rattle.grammar_laws.proofs.laws.sound_parts.Goals as goal

pub returns : goal.returns
returns c = sound_parts
