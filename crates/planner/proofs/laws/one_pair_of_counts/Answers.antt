use Rattle.planner.proofs.OneLaws.{has_one_count}
use Rattle.planner.proofs.laws.one_pair_of_counts.Goals as goal

pub returns : goal.returns
returns c = has_one_count
