use Rattle.dump_laws.proofs.BackLaws.{dumps_are_sound}
use Rattle.dump_laws.proofs.laws.dumps_are_sound.Goals as goal

pub returns : goal.returns
returns c = dumps_are_sound
