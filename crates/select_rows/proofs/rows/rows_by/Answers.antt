use Rattle.std.proofs.Common.{◌≡◌, ◌∙◌, ap}
use Rattle.std.proofs.lemmas.Result.{on_ok_weaker}
use Rattle.std.specs.Option.{option_copied}
use Rattle.lorel_eval.specs.Tests.{CondOver}
use Rattle.lorel_bound.specs.Bound.{bound_tree}
use Rattle.lorel_bound.specs.Plans.{steps_of}
use Rattle.plan_ops.proofs.ReadyLaws.{steps_can}
use Rattle.select_rows.specs.Views.{view_over, ReadsNone}
use Rattle.select_rows.proofs.SomeReadLaws.{some_read}
use Rattle.select_rows.proofs.StageLaws.{passes_alike}
use Rattle.select_rows.proofs.rows.rows_by.Goals as goal

pub test_over-requires-clause-ready : goal.test_over-requires-clause-ready
test_over-requires-clause-ready g c =
    steps_can c.args.view.now.labels.now (bound_tree c.args.bound.now) c.args.plan.now.kind (steps_of c.args.plan.now) c.requires.runnable c.requires.planned

pub joined_over-requires-clause-ready : goal.joined_over-requires-clause-ready
joined_over-requires-clause-ready g c =
    steps_can c.args.view.now.labels.now (bound_tree c.args.bound.now) c.args.plan.now.kind (steps_of c.args.plan.now) c.requires.runnable c.requires.planned

pub joined_over-requires-clause-passes : goal.joined_over-requires-clause-passes
joined_over-requires-clause-passes g c = λ row passes.
    let view = c.args.view.now in
    let labels = view.labels.now in
    let edges = g.G.Adjacent.edges view.graph.now in
    let objects = g.G.ValueOf.objects view.graph.now in
    let made = c.in_ok-test.ensures in
    (passes_alike labels edges objects c.in_ok-test.test (option_copied c.as_ref-cond.result)
    made.labels made.edges made.objects made.cond row).0 passes

pub answer_by-requires-clause-passes : goal.answer_by-requires-clause-passes
answer_by-requires-clause-passes g c =
    let view = c.args.view.now in
    let made = c.in_ok-test.ensures in
    let same = c.in_ok-joined.ensures.test in
    passes_alike view.labels.now (g.G.Adjacent.edges view.graph.now) (g.G.ValueOf.objects view.graph.now) c.in_ok-joined.joined c.args.bound.now.cond
    (ap (λ (t : CondOver). t.labels) same ∙ made.labels) (ap (λ (t : CondOver). t.edges) same ∙ made.edges)
    (ap (λ (t : CondOver). t.objects) same ∙ made.objects) (ap (λ (t : CondOver). t.cond) same ∙ made.cond ∙ c.as_ref-cond.ensures.value)

pub answer_by-requires-clause-hints : goal.answer_by-requires-clause-hints
answer_by-requires-clause-hints g c = λ row finishes passes. passes

pub returns-clause-quiet : goal.returns-clause-quiet
returns-clause-quiet g c =
    let view = c.args.view.now in
    let tree = bound_tree c.args.bound.now in
    let plan = steps_of c.args.plan.now in
    let over = view_over view.labels.now (g.G.Adjacent.edges view.graph.now) (g.G.ValueOf.objects view.graph.now) (g.K.Links.edges view.links.now)
    (g.V.Values.entries view.values.now) (g.P.Paths.reaches view.paths.now) tree in
    on_ok_weaker {P = ReadsNone over tree plan → c.answer_by.new.steps ≡ c.joined_over.new.steps}
    {Q = ReadsNone over tree plan → c.answer_by.new.steps ≡ c.args.steps.now} c.answer_by.result
    (λ quiet none. quiet none ∙ c.in_ok-joined.ensures.quiet (λ some. some_read over plan some none.0)
    ∙ c.in_ok-test.ensures.quiet (λ some. some_read over plan some none.0)) c.answer_by.ensures.quiet
