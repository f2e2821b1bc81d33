use Rattle.std.proofs.Common.{◌≡◌, ◌≤◌, ◌++◌, map, drop}
use Rattle.lorel_bound.specs.Bound.{bound_cond, bound_conds, conds_from}
use Rattle.lorel_bound.specs.Conditions.{paths_of_all}
use Rattle.lorel_eval.specs.Types.{LEAVES}
use Rattle.lorel_eval.specs.Tests.{rest_leaves}
use Rattle.lorel_eval.specs.inside.Labelled.{labelled}
use Rattle.lorel_eval.specs.inside.Ready.{ready_trees}
use Rattle.lorel_eval.proofs.making_ready.+make.Given as goal

abbrev pub invariant-ready_conds-members : goal.invariant-ready_conds-members
invariant-ready_conds-members l =
    let left = map bound_cond (drop l.member-index l.member-items) in
    record {
      few : rest_leaves (paths_of_all (conds_from left)) ≤ LEAVES;
      made : ready_trees l.ready ++ map (labelled l.labels) left ≡ map (labelled l.labels) (bound_conds l.members);
    }
