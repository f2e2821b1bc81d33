use Rattle.dump_laws.proofs.BackLaws.{dumps_read_back}
use Rattle.dump_laws.proofs.laws.dumps_read_back.Goals as goal

pub returns : goal.returns
returns c = dumps_read_back
