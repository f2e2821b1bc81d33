use Rattle.std.proofs.Common.{List, map, All, sym, ap, ◌∙◌, subst, arith}
use Rattle.lorel_bound.specs.Bound.{bound_tree}
use Rattle.lorel_bound.specs.declared.plans.PlanStep.{PlanStep}
use Rattle.lorel_bound.specs.Plans.{step_tree, steps_of}
use Rattle.plan_ops.specs.Types.{Oid}
use Rattle.plan_laws.specs.Steps.{steps_over}
use Rattle.plan_laws.specs.Orders.{CanBeReady}
use Rattle.plan_ops.proofs.ReadyLaws.{steps_can, first_of, first_machine}
use Rattle.plan_ops.proofs.KeptLaws.{none_by}
use Rattle.plan_ops.proofs.DescribeLawsToCome.{top_to_come, sought_to_come}
use Rattle.row_hints.proofs.ToldLaws.{unasked_told}
use Rattle.plan_ops.proofs.rows.Rows.with_hints.Goals as goal

pub ready_steps-requires : goal.ready_steps-requires
ready_steps-requires g c =
    subst (λ (l : List PlanStep). All CanBeReady (map step_tree l)) (sym c.as_slice.ensures)
    (steps_can c.args.labels.now (bound_tree c.args.bound.now) c.args.plan.now.kind (steps_of c.args.plan.now) c.requires.runnable c.requires.plan)

pub invariant_of-result : goal.invariant_of-result
invariant_of-result g c =
    let over = steps_over c.args.labels.now (g.A.Adjacent.edges c.args.graph.now) (g.K.Links.edges c.args.links.now) (g.V.Values.entries c.args.values.now)
    (g.P.Paths.reaches c.args.paths.now) (g.T.RowTest.passes c.args.test.now) in
    let hints = λ (row : List Oid). g.T.RowTest.passes c.args.test.now row × g.T.RowTest.passes c.args.hints.now row in
    first_machine over hints c.args.labels.now (bound_tree c.args.bound.now) c.args.plan.now.kind (steps_of c.args.plan.now) c.in_ok-ready.ready.items c.in_ok-kept.kept.items c.in_ok-learned.learned.told.items c.push.new.self.items
    c.requires.runnable c.requires.plan (c.in_ok-ready.ensures.trees ∙ ap (map step_tree) c.as_slice.ensures) c.in_ok-ready.ensures.found
    (none_by over c.in_ok-ready.ready.items c.in_ok-kept.kept.items (omega (arith, c.in_ok-kept.ensures.long)) c.in_ok-kept.ensures.none)
    (unasked_told hints c.in_ok-learned.learned.told.items c.in_ok-learned.ensures)
    (λ row finishes passes. (passes, c.requires.hints row finishes passes))
    (first_of c.new-partials.result.items c.push.new.self.items c.new-2.result c.new-partials.ensures.items c.in_ok-push.ensures.items c.new-2.ensures)

pub returns-clause-rows : goal.returns-clause-rows
returns-clause-rows g c =
    let over = steps_over c.args.labels.now (g.A.Adjacent.edges c.args.graph.now) (g.K.Links.edges c.args.links.now) (g.V.Values.entries c.args.values.now)
    (g.P.Paths.reaches c.args.paths.now) (g.T.RowTest.passes c.args.test.now) in
    λ objects agrees. sought_to_come over (steps_of c.args.plan.now) c.push.new.self.items
    (first_of c.new-partials.result.items c.push.new.self.items c.new-2.result c.new-partials.ensures.items c.in_ok-push.ensures.items c.new-2.ensures)
    objects (bound_tree c.args.bound.now) c.args.plan.now.kind c.note_distinct.ensures c.requires.runnable c.requires.plan agrees

pub returns-clause-top : goal.returns-clause-top
returns-clause-top g c =
    let over = steps_over c.args.labels.now (g.A.Adjacent.edges c.args.graph.now) (g.K.Links.edges c.args.links.now) (g.V.Values.entries c.args.values.now)
    (g.P.Paths.reaches c.args.paths.now) (g.T.RowTest.passes c.args.test.now) in
    λ walks. top_to_come over (steps_of c.args.plan.now) c.push.new.self.items
    (first_of c.new-partials.result.items c.push.new.self.items c.new-2.result c.new-partials.ensures.items c.in_ok-push.ensures.items c.new-2.ensures)
    (bound_tree c.args.bound.now) c.args.plan.now.kind c.requires.runnable c.requires.plan walks
