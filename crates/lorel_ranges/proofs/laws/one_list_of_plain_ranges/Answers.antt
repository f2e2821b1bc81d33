use Rattle.lorel_ranges.proofs.GatherLaws.{has_one_plain}
use Rattle.lorel_ranges.proofs.laws.one_list_of_plain_ranges.Goals as goal

pub returns : goal.returns
returns c = has_one_plain
