use Rattle.std.proofs.Common.{map, IfOk, IfSome, sym, subst}
use Rattle.lorel_bound.specs.Bound.{BoundPathTree, range_tree, bound_cond}
use Rattle.lorel_bound.specs.Conditions.{CondOf}
use Rattle.lorel_bound.proofs.BoundLaws.{compare_cond}
use Rattle.select_hints.specs.inside.Moves.{IsMoved}
use Rattle.select_hints.proofs.FormLaws.{same_cond}
use Rattle.select_hints.proofs.moved.moved.Goals as goal

pub returns-in-Compare : goal.returns-in-Compare
returns-in-Compare c =
    subst (λ (w : CondOf BoundPathTree). IfOk c.moved_compared.result (λ found. IfSome found (λ more.
    IsMoved (map range_tree c.args.ranges.now) w (bound_cond more))))
    (sym (compare_cond c.args.cond.now c.in-Compare.left c.in-Compare.op c.in-Compare.right c.in-Compare.is)) c.moved_compared.ensures

pub returns-in-Same : goal.returns-in-Same
returns-in-Same c =
    subst (λ (w : CondOf BoundPathTree). IfOk c.moved_met.result (λ found. IfSome found (λ more.
    IsMoved (map range_tree c.args.ranges.now) w (bound_cond more))))
    (sym (same_cond c.args.cond.now c.in-Same.left c.in-Same.right c.in-Same.is)) c.moved_met.ensures
