use Rattle.std.proofs.Common.{length, sym, ap, subst, ◌∙◌, arith}
use Rattle.std.proofs.lemmas.Result.{IfOk-weaker}
use Rattle.lore_base.specs.Databases.{OemGraph}
use Rattle.dataguide.specs.Guides.{GuideGraph, StandsFor}
use Rattle.guide_query.specs.GuideReaches.{TellsReached}
use Rattle.lore_store.specs.Stores.{IsGuided}
use Rattle.lorel_bound.specs.Bound.{bound_tree}
use Rattle.lorel_bound.specs.Plans.{path_to}
use Rattle.planner.specs.Choices.{AreCounts}
use Rattle.statements.specs.Plans.{AreCountsOver}
use Rattle.statements.proofs.PlanLaws.{guide_tells, few_told, counts_over}
use Rattle.statements.proofs.selects.plan_of.Goals as goal

pub choose-requires-clause-few : goal.choose-requires-clause-few
choose-requires-clause-few c = λ named probe oids can lists.
    let db = c.args.store.now.db in
    let guided = subst (IsGuided db.graph) (sym c.guide-guide.ensures.guide) c.guide-guide.ensures.guided in
    let stands = subst (λ (g : GuideGraph). StandsFor g db.graph.names db.graph.edges) (sym c.new-paths.ensures.guide) guided.stands in
    let fits = few_told db c.graph-graph.ensures.valid c.new-paths.result stands (path_to (bound_tree c.args.bound.now) probe) named oids lists in
    let same = ap (λ (g : OemGraph). length g.objects) c.graph-graph.ensures.graph in
    let count = c.objects-objects.ensures.count in
    omega (arith, fits, same, count)

pub returns-clause-counts : goal.returns-clause-counts
returns-clause-counts c =
    let db = c.args.store.now.db in
    let tree = bound_tree c.args.bound.now in
    let told = c.new-paths.result in
    let names = c.names.ensures ∙ ap (λ (g : OemGraph). g.names) c.graph-graph.ensures.graph in
    let tells = guide_tells db c.guide-guide.result.now told c.names.result.now names c.guide-guide.ensures.guide c.guide-guide.ensures.guided c.new-paths.ensures.tells in
    let texts = c.labels-labels.result.now in
    IfOk-weaker c.choose.result
    (λ plan. AreCounts texts c.values-values.result.now.entries (TellsReached told) tree plan.candidates plan.found)
    (λ plan. AreCountsOver c.args.store.now.db tree plan.candidates plan.found)
    (λ plan h. counts_over db c.graph-graph.ensures.valid tree c.requires.named told tells c.values-values.result.now.entries c.values-values.ensures
    texts c.labels-labels.ensures c.new-paths.ensures.labels plan.candidates plan.found h)
    c.choose.ensures.counts
