use Rattle.dataguide.proofs.SameTargets.{reached_edges_decide}
use Rattle.dataguide.proofs.laws.reached_edges_decide.Goals as goal

pub returns : goal.returns
returns c = reached_edges_decide
