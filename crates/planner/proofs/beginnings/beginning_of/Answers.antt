use Rattle.std.proofs.Common.{List, map, sym, subst}
use Rattle.std.specs.Prelude.{Option, IfNone}
use Rattle.lorel_bound.specs.declared.bound.Range.{Range}
use Rattle.lorel_bound.specs.Bound.{range_tree, bound_tree}
use Rattle.lorel_bound.specs.Plans.{IsChain, CannotBeBottom}
use Rattle.planner.specs.declared.beginnings.Beginning.{Beginning}
use Rattle.planner.proofs.beginnings.beginning_of.Goals as goal

pub returns-in_err-named-clause-none : goal.returns-in_err-named-clause-none
returns-in_err-named-clause-none c =
    subst (λ (beginning : Option Beginning). IfNone beginning (CannotBeBottom (bound_tree c.args.bound.now))) (sym c.from_residual.ensures)
    (λ named probe can. c.in_err-named.ensures.none named
    (subst (λ (ranges : List Range). IsChain named (map range_tree ranges)) (sym c.as_slice.ensures) can.chain))
