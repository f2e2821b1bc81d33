use Rattle.std.proofs.Common.{IfNone, sym, subst}
use Rattle.lorel_bound.specs.Bound.{BoundPathTree}
use Rattle.lorel_bound.specs.Conditions.{CondOf}
use Rattle.lorel_bound.specs.Plans.{DoesNotFit}
use Rattle.lorel_bound.proofs.BoundLaws.{compare_cond}
use Rattle.planner.proofs.probes.fitting.Goals as goal

pub returns-in-Compare-clause-none : goal.returns-in-Compare-clause-none
returns-in-Compare-clause-none c =
    let is = compare_cond c.args.cond.now c.in-Compare.left c.in-Compare.op c.in-Compare.right c.in-Compare.is in
    subst (λ (cond : CondOf BoundPathTree). IfNone c.comparison.result (DoesNotFit cond)) (sym is) c.comparison.ensures.none
