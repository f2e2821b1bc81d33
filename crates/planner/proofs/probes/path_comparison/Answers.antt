use Rattle.std.proofs.Common.{sym, subst}
use Rattle.std.specs.Prelude.{Option, IfNone}
use Rattle.lorel_bound.specs.Bound.{bound_path}
use Rattle.lorel_bound.specs.Conditions.{compare, at, constant}
use Rattle.lorel_bound.specs.Plans.{DoesNotFit}
use Rattle.planner.specs.declared.probes.Probe.{Probe}
use Rattle.planner.proofs.ProbeLaws.{unended}
use Rattle.planner.proofs.probes.path_comparison.Goals as goal

pub returns-in_err-label-clause-none : goal.returns-in_err-label-clause-none
returns-in_err-label-clause-none c =
    subst (λ (probe : Option Probe). IfNone probe (DoesNotFit (compare (at (bound_path c.args.path.now)) c.args.op (constant c.args.value.now))))
    (sym c.from_residual.ensures)
    (unended (bound_path c.args.path.now) c.args.op c.args.value.now c.in_err-label.ensures.none)
