use Rattle.dataguide.proofs.ReadBounds.{reads_are_within}
use Rattle.dataguide.proofs.laws.reads_are_within.Goals as goal

pub returns : goal.returns
returns c = reads_are_within
