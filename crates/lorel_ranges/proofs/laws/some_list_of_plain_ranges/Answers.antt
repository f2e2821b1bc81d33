use Rattle.lorel_ranges.proofs.GatherLaws.{has_some_plain}
use Rattle.lorel_ranges.proofs.laws.some_list_of_plain_ranges.Goals as goal

pub returns : goal.returns
returns c = has_some_plain
