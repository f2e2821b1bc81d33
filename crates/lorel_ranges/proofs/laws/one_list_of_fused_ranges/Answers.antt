use Rattle.lorel_ranges.proofs.FuseLaws.{has_one_fused}
use Rattle.lorel_ranges.proofs.laws.one_list_of_fused_ranges.Goals as goal

pub returns : goal.returns
returns c = has_one_fused
