use Rattle.dataguide.proofs.ReadBounds.{some_reads_are_within}
use Rattle.dataguide.proofs.laws.some_reads_are_within.Goals as goal

pub returns : goal.returns
returns c = some_reads_are_within
