use Rattle.std.proofs.Common.{◌≡◌, length, ap, ◌∙◌}
use Rattle.lore_base.specs.Databases.{OemGraph}
use Rattle.dataguide.specs.Guides.{GuideGraph}
use Rattle.statements.specs.Types.{Reply, Changed}
use Rattle.statements.proofs.GuideStatementLaws.{counted}
use Rattle.statements.proofs.changing.counts.Goals as goal

pub returns : goal.returns
returns c =
    let store = c.args.store.now in
    let reply : Reply = Changed c.objects.result c.edges.result c.len.result in
    let objects = c.objects.ensures.count ∙ ap (λ (g : OemGraph). length g.objects) c.graph-graph.ensures.graph in
    let edges = c.edges.ensures.count ∙ ap (λ (g : OemGraph). length g.edges) c.graph-graph.ensures.graph in
    let nodes = c.len.ensures ∙ ap (λ (g : GuideGraph). length g.nodes) c.guide.ensures.guide in
    let is : reply ≡ Changed (length store.db.graph.objects) (length store.db.graph.edges) (length store.guide.nodes) =
    λ i. Changed (objects i) (edges i) (nodes i) in
    counted store.db store.guide c.guide.ensures.guided reply is
