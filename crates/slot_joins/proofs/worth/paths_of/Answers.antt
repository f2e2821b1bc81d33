use Rattle.lorel_bound.proofs.BoundLaws.{compare_cond}
use Rattle.slot_joins.proofs.JoinLaws.{same_paths}
use Rattle.slot_joins.proofs.worth.paths_of.Goals as goal

pub returns-in-Compare : goal.returns-in-Compare
returns-in-Compare c =
    same_paths _ _ c.paths_compared.result (compare_cond c.args.cond.now c.in-Compare.left c.in-Compare.op c.in-Compare.right c.in-Compare.is) c.paths_compared.ensures
