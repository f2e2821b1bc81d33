use Rattle.std.proofs.Common.{List, map, All, IfSome, sym, subst}
use Rattle.lorel_bound.specs.declared.plans.PlanStep.{PlanStep}
use Rattle.lorel_bound.specs.Plans.{step_tree}
use Rattle.plan_laws.specs.Orders.{CanBeReady}
use Rattle.select_rows.specs.inside.Reads.{ReadsSome}
use Rattle.select_rows.proofs.row_tests.joining_of.Goals as goal

pub many_first-requires : goal.many_first-requires
many_first-requires g c = subst (λ (l : List PlanStep). All CanBeReady (map step_tree l)) (sym c.as_slice-steps.ensures) c.requires

pub returns : goal.returns
returns g c =
    let entries = g.V.Values.entries c.args.view.now.values.now in
    subst (λ (l : List PlanStep). ReadsSome entries (map step_tree l)) c.as_slice-steps.ensures
    (subst (λ found. IfSome found (λ count. ReadsSome entries (map step_tree c.as_slice-steps.result.now))) c.in-Some.is c.in_ok-first.ensures)
