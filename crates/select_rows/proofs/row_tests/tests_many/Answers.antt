use Rattle.std.proofs.Common.{List, map, All, IsTrue, sym, subst}
use Rattle.lorel_bound.specs.declared.plans.PlanStep.{PlanStep}
use Rattle.lorel_bound.specs.Plans.{step_tree}
use Rattle.plan_laws.specs.Orders.{CanBeReady}
use Rattle.select_rows.specs.inside.Reads.{ReadsSome}
use Rattle.select_rows.proofs.SomeReadLaws.{told_of_some}
use Rattle.select_rows.proofs.row_tests.tests_many.Goals as goal

pub many_first-requires : goal.many_first-requires
many_first-requires g c = subst (λ (l : List PlanStep). All CanBeReady (map step_tree l)) (sym c.as_slice-steps.ensures) c.requires

pub returns : goal.returns
returns g c = λ so.
    subst (λ (l : List PlanStep). ReadsSome (g.V.Values.entries c.args.view.now.values.now) (map step_tree l)) c.as_slice-steps.ensures
    (told_of_some _ _ c.in_ok-many.ensures (subst IsTrue c.is_some.ensures so))
