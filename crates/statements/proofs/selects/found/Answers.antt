use Rattle.std.proofs.Common.{◌≡◌, inr, ap, ◌∙◌}
use Rattle.std.specs.Prelude.{IfSome}
use Rattle.std.proofs.lemmas.Result.{IfOk-weaker, IfErr-weaker}
use Rattle.lore_base.specs.Databases.{OemGraph}
use Rattle.guide_query.specs.GuideReaches.{TellsReached}
use Rattle.lorel_bound.specs.Bound.{bound_tree}
use Rattle.lorel_bound.specs.Plans.{steps_of}
use Rattle.lorel_bound.specs.SlotRows.{IsSlotRow}
use Rattle.answers.specs.Asked.{AreRows, AreTooMany}
use Rattle.select_rows.specs.Views.{view_over, IsRowOf, ReadsNone}
use Rattle.statements.specs.Types.refusals
use Rattle.statements.specs.Uncounted.{IsQuietBound}
use Rattle.statements.specs.Stops.{told}
use Rattle.statements.proofs.PlanLaws.{guide_tells}
use Rattle.statements.proofs.StopLaws.{on_reply_weaker, answered_rows, answered_stop, answered_quiet}
use Rattle.statements.proofs.ViewLaws.{paths_told, its_plan, its_rows, its_stop, its_view, its_quiet}
use Rattle.statements.proofs.selects.found.Goals as goal

pub rows_over-requires-clause-planned : goal.rows_over-requires-clause-planned
rows_over-requires-clause-planned g c =
    its_plan c.args.store.now.db (bound_tree c.args.bound.now) c.labels-labels.result.now c.graph-graph.result.now.graph
    c.labels-labels.ensures c.graph-graph.ensures.graph c.in_ok-plan.plan c.in_ok-plan.ensures.steps

pub rows_over-requires-clause-fits : goal.rows_over-requires-clause-fits
rows_over-requires-clause-fits g c =
    let db = c.args.store.now.db in
    let names = c.names.ensures ∙ ap (λ (graph : OemGraph). graph.names) c.graph-graph.ensures.graph in
    let tells = guide_tells db c.guide.result.now c.new-paths.result c.names.result.now names c.guide.ensures.guide c.guide.ensures.guided
    c.new-paths.ensures.tells in
    inr (its_view db (bound_tree c.args.bound.now) c.labels-labels.result.now c.graph-graph.result.now.graph
    c.labels-labels.ensures c.graph-graph.ensures.graph c.requires.named c.links.result.now.links c.links.ensures
    c.values.result.now.entries c.values.ensures (TellsReached c.new-paths.result)
    (paths_told db (TellsReached c.new-paths.result) c.new-paths.result.labels (c.new-paths.ensures.labels ∙ c.labels-labels.ensures) tells))

pub rows_over-requires-clause-indexed : goal.rows_over-requires-clause-indexed
rows_over-requires-clause-indexed g c = λ yes.
    let db = c.args.store.now.db in
    let names = c.names.ensures ∙ ap (λ (graph : OemGraph). graph.names) c.graph-graph.ensures.graph in
    let tells = guide_tells db c.guide.result.now c.new-paths.result c.names.result.now names c.guide.ensures.guide c.guide.ensures.guided
    c.new-paths.ensures.tells in
    let agrees = its_view db (bound_tree c.args.bound.now) c.labels-labels.result.now c.graph-graph.result.now.graph
    c.labels-labels.ensures c.graph-graph.ensures.graph c.requires.named c.links.result.now.links c.links.ensures
    c.values.result.now.entries c.values.ensures (TellsReached c.new-paths.result)
    (paths_told db (TellsReached c.new-paths.result) c.new-paths.result.labels (c.new-paths.ensures.labels ∙ c.labels-labels.ensures) tells) in
    record { links_are = agrees.links; entries_are = agrees.entries }

pub returns-clause-rows : goal.returns-clause-rows
returns-clause-rows g c =
    let db = c.args.store.now.db in
    let tree = bound_tree c.args.bound.now in
    let labels = c.labels-labels.result.now in
    let graph = c.graph-graph.result.now.graph in
    IfOk-weaker c.answer_of.result (AreRows (IsRowOf labels graph.edges graph.objects tree)) (AreRows (IsSlotRow db tree))
    (its_rows db tree labels graph c.labels-labels.ensures c.graph-graph.ensures.graph)
    (answered_rows c.rows_over.result (IsRowOf labels graph.edges graph.objects tree) c.answer_of.result c.answer_of.ensures.ok c.rows_over.ensures.rows)

pub returns-clause-refused : goal.returns-clause-refused
returns-clause-refused g c =
    let db = c.args.store.now.db in
    let tree = bound_tree c.args.bound.now in
    let labels = c.labels-labels.result.now in
    let graph = c.graph-graph.result.now.graph in
    IfErr-weaker c.answer_of.result
    (λ stop. IfSome (told stop) (λ refusal. (refusal ≡ refusals.TooManyRows) × AreTooMany (IsRowOf labels graph.edges graph.objects tree)))
    (λ stop. IfSome (told stop) (λ refusal. (refusal ≡ refusals.TooManyRows) × AreTooMany (IsSlotRow db tree)))
    (λ stop h. its_stop db tree labels graph c.labels-labels.ensures c.graph-graph.ensures.graph (told stop) h)
    (answered_stop c.rows_over.result (IsRowOf labels graph.edges graph.objects tree) c.answer_of.result c.answer_of.ensures.refused c.rows_over.ensures.rows)

pub returns-clause-quiet : goal.returns-clause-quiet
returns-clause-quiet g c =
    let db = c.args.store.now.db in
    let tree = bound_tree c.args.bound.now in
    let labels = c.labels-labels.result.now in
    let graph = c.graph-graph.result.now.graph in
    let plan = c.in_ok-plan.plan in
    let names = c.names.ensures ∙ ap (λ (g : OemGraph). g.names) c.graph-graph.ensures.graph in
    let tells = guide_tells db c.guide.result.now c.new-paths.result c.names.result.now names c.guide.ensures.guide c.guide.ensures.guided
    c.new-paths.ensures.tells in
    let links = c.links.result.now.links in
    let entries = c.values.result.now.entries in
    let over = view_over labels graph.edges graph.objects links entries (TellsReached c.new-paths.result) tree in
    let Same = c.rows_over.new.steps ≡ c.args.steps.now in
    on_reply_weaker c.answer_of.result (ReadsNone over tree (steps_of plan) → Same) (IsQuietBound db tree → Same)
    (λ same quiet. same (its_quiet db tree labels graph c.labels-labels.ensures c.graph-graph.ensures.graph c.requires.named links c.links.ensures
    entries c.values.ensures (TellsReached c.new-paths.result)
    (paths_told db (TellsReached c.new-paths.result) c.new-paths.result.labels (c.new-paths.ensures.labels ∙ c.labels-labels.ensures) tells) c.requires.runnable plan c.in_ok-plan.ensures.counts
    c.in_ok-plan.ensures.kind c.in_ok-plan.ensures.steps quiet))
    (answered_quiet c.rows_over.result c.answer_of.result c.answer_of.ensures.ok c.answer_of.ensures.refused (ReadsNone over tree (steps_of plan) → Same)
    c.rows_over.ensures.quiet)
