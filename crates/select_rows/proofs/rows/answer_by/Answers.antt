use Rattle.std.proofs.Common.{◌≡◌}
use Rattle.lorel_bound.specs.Bound.{bound_tree}
use Rattle.lorel_bound.specs.Plans.{steps_of}
use Rattle.select_rows.specs.Views.{view_over, ReadsNone}
use Rattle.select_rows.proofs.StageLaws.{planned_rows, quiet_left, ok_where}
use Rattle.select_rows.proofs.rows.answer_by.Goals as goal

pub returns-clause-rows : goal.returns-clause-rows
returns-clause-rows g c =
    let view = c.args.view.now in
    let tree = bound_tree c.args.bound.now in
    let graph = view.graph.now in
    let labels = view.labels.now in
    planned_rows c.in_ok-rows.rows labels graph view.links.now view.values.now view.paths.now c.args.test.now c.args.plan.now
    c.in_ok-rows.ensures.over g.G.Adjacent.edges g.K.Links.edges g.V.Values.entries g.P.Paths.reaches g.T.RowTest.passes tree c.requires.runnable (g.G.ValueOf.objects graph)
    c.requires.passes c.requires.fits c.in_ok-rows.ensures.rows c.in_ok-rows.ensures.top c.all_rows.result c.all_rows.ensures.rows

pub returns-clause-quiet : goal.returns-clause-quiet
returns-clause-quiet g c =
    let view = c.args.view.now in
    let tree = bound_tree c.args.bound.now in
    let graph = view.graph.now in
    let labels = view.labels.now in
    let over = view_over labels (g.G.Adjacent.edges graph) (g.G.ValueOf.objects graph) (g.K.Links.edges view.links.now) (g.V.Values.entries view.values.now)
    (g.P.Paths.reaches view.paths.now) tree in
    ok_where c.all_rows.result (ReadsNone over tree (steps_of c.args.plan.now)) (c.all_rows.new.steps ≡ c.args.steps.now) (λ none.
    let quiet = quiet_left c.in_ok-rows.rows labels graph view.links.now view.values.now view.paths.now c.args.test.now c.args.plan.now
    c.in_ok-rows.ensures.over g.G.Adjacent.edges g.K.Links.edges g.V.Values.entries g.P.Paths.reaches g.T.RowTest.passes tree c.requires.runnable (g.G.ValueOf.objects graph)
    c.requires.passes c.requires.fits c.in_ok-rows.ensures.rows c.in_ok-rows.ensures.top none c.in_ok-rows.ensures.quiet in
    c.all_rows.ensures.quiet quiet.0 quiet.1)
