use Rattle.oem_reach.proofs.SearchLaws.{reads_are_within_twice}
use Rattle.oem_reach.proofs.laws.reads_are_within_twice.Goals as goal

pub returns : goal.returns
returns c = reads_are_within_twice
