use Rattle.std.proofs.Common.{◌≡◌, Some, ap, ◌∙◌}
use Rattle.std.proofs.lemmas.Result.{on_ok_weaker}
use Rattle.lorel_bound.specs.Bound.{bound_cond, bound_tree}
use Rattle.lorel_bound.specs.Plans.{steps_of}
use Rattle.lorel_eval.specs.Tests.{CondOver}
use Rattle.plan_ops.proofs.ReadyLaws.{steps_can}
use Rattle.select_rows.specs.Views.{view_over, ReadsNone}
use Rattle.select_rows.proofs.HintedLaws.{hints_follow}
use Rattle.select_rows.proofs.SomeReadLaws.{some_read}
use Rattle.select_rows.proofs.StageLaws.{passes_of, passes_alike}
use Rattle.select_rows.proofs.rows.rows_hinted.Goals as goal

pub for_hints-requires-clause-leaves : goal.for_hints-requires-clause-leaves
for_hints-requires-clause-leaves g c = c.requires.hints.few_leaves

pub joined_over-requires-clause-ready : goal.joined_over-requires-clause-ready
joined_over-requires-clause-ready g c =
    steps_can c.args.view.now.labels.now (bound_tree c.args.bound.now) c.args.plan.now.kind (steps_of c.args.plan.now) c.requires.runnable c.requires.planned

pub joined_over-requires-clause-indexed : goal.joined_over-requires-clause-indexed
joined_over-requires-clause-indexed g c = λ yes. c.requires.indexed

pub joined_over-requires-clause-passes : goal.joined_over-requires-clause-passes
joined_over-requires-clause-passes g c = λ row passes.
    let view = c.args.view.now in
    let made = c.in_ok-early.ensures in
    (passes_alike view.labels.now (g.G.Adjacent.edges view.graph.now) (g.G.ValueOf.objects view.graph.now) c.in_ok-early.early (Some c.args.hints.now)
    made.labels made.edges made.objects made.cond row).0 passes

pub answer_by-requires-clause-passes : goal.answer_by-requires-clause-passes
answer_by-requires-clause-passes g c =
    let view = c.args.view.now in
    let made = c.in_ok-test.ensures in
    let same = c.alone-whole.ensures in
    passes_alike view.labels.now (g.G.Adjacent.edges view.graph.now) (g.G.ValueOf.objects view.graph.now) c.alone-whole.result c.args.bound.now.cond
    (ap (λ (t : CondOver). t.labels) same ∙ made.labels) (ap (λ (t : CondOver). t.edges) same ∙ made.edges)
    (ap (λ (t : CondOver). t.objects) same ∙ made.objects) (ap (λ (t : CondOver). t.cond) same ∙ made.cond ∙ c.as_ref-cond.ensures.value)

pub answer_by-requires-clause-hints : goal.answer_by-requires-clause-hints
answer_by-requires-clause-hints g c =
    let view = c.args.view.now in
    let labels = view.labels.now in
    let edges = g.G.Adjacent.edges view.graph.now in
    let objects = g.G.ValueOf.objects view.graph.now in
    let made = c.in_ok-test.ensures in
    let other = c.in_ok-early.ensures in
    let whole = c.alone-whole.ensures in
    let joined = c.in_ok-joined.ensures.test in
    hints_follow labels edges objects (g.K.Links.edges view.links.now) (g.V.Values.entries view.values.now) (g.P.Paths.reaches view.paths.now)
    (bound_tree c.args.bound.now) (bound_cond c.args.hints.now) (passes_of c.alone-whole.result) (passes_of c.in_ok-joined.joined)
    (passes_alike labels edges objects c.alone-whole.result c.args.bound.now.cond (ap (λ (t : CondOver). t.labels) whole ∙ made.labels)
    (ap (λ (t : CondOver). t.edges) whole ∙ made.edges) (ap (λ (t : CondOver). t.objects) whole ∙ made.objects)
    (ap (λ (t : CondOver). t.cond) whole ∙ made.cond ∙ c.as_ref-cond.ensures.value))
    (passes_alike labels edges objects c.in_ok-joined.joined (Some c.args.hints.now) (ap (λ (t : CondOver). t.labels) joined ∙ other.labels)
    (ap (λ (t : CondOver). t.edges) joined ∙ other.edges) (ap (λ (t : CondOver). t.objects) joined ∙ other.objects)
    (ap (λ (t : CondOver). t.cond) joined ∙ other.cond))
    (steps_of c.args.plan.now) c.args.plan.now.kind c.note_distinct.ensures c.requires.runnable c.requires.planned c.requires.hints c.requires.fits

pub returns-clause-quiet : goal.returns-clause-quiet
returns-clause-quiet g c =
    let view = c.args.view.now in
    let tree = bound_tree c.args.bound.now in
    let plan = steps_of c.args.plan.now in
    let over = view_over view.labels.now (g.G.Adjacent.edges view.graph.now) (g.G.ValueOf.objects view.graph.now) (g.K.Links.edges view.links.now)
    (g.V.Values.entries view.values.now) (g.P.Paths.reaches view.paths.now) tree in
    on_ok_weaker {P = ReadsNone over tree plan → c.answer_by.new.steps ≡ c.joined_over.new.steps}
    {Q = ReadsNone over tree plan → c.answer_by.new.steps ≡ c.args.steps.now} c.answer_by.result
    (λ quiet none. quiet none ∙ c.in_ok-joined.ensures.quiet (λ some. some_read over plan some none.0)) c.answer_by.ensures.quiet
