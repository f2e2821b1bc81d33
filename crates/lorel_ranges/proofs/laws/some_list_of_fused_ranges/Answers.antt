use Rattle.lorel_ranges.proofs.PrefixLaws.{has_some_fused}
use Rattle.lorel_ranges.proofs.laws.some_list_of_fused_ranges.Goals as goal

pub returns : goal.returns
returns c = has_some_fused
