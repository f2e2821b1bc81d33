use Rattle.std.proofs.Common.{subst}
use Rattle.lore_base.specs.Paths.{path_tree, Reaches}
use Rattle.lore_base.specs.TargetSets.{ListsInOrder}
use Rattle.lorel_bound.specs.Bound.{bound_path}
use Rattle.product_walk.specs.ProductWalks.{ReachesInto}
use Rattle.index_eval.specs.Types.{Path}
use Rattle.index_eval.proofs.EndLaws.{extended}
use Rattle.index_eval.proofs.ListedLaws.{met_objects, met_turned}
use Rattle.index_eval.proofs.listing.listed_meeting.Goals as goal

pub returns-clause-own : goal.returns-clause-own
returns-clause-own g c =
    let readers = c.args.readers.now in
    let edges = g.G.Adjacent.edges readers.graph.now in
    let objects = g.G.ValueOf.objects readers.graph.now in
    let links = g.K.Links.edges readers.links.now in
    let reaches = subst (λ (route : Path). ListsInOrder (Reaches readers.labels.now edges (path_tree route) c.in-Named.named) c.reach.new.buf)
    c.in_ok-route.ensures (extended (ListsInOrder (Reaches readers.labels.now edges (path_tree c.in_ok-route.route) c.in-Named.named))
    c.new-ends.result c.reach.new.buf c.new-ends.ensures c.in_ok-reach.ensures.objects) in
    let back = subst (λ (way : Path). ListsInOrder (ReachesInto readers.labels.now links (path_tree way) c.reach.new.buf) c.in_ok-oids.oids)
    c.in_ok-way.ensures c.in_ok-oids.ensures in
    met_objects readers.labels.now edges objects links c.requires.indexes.links_are c.in-Some.slot c.in-Named.named (bound_path c.args.path.now)
    (bound_path c.args.other.now) c.reach.new.buf c.in_ok-oids.oids c.in-Some.ensures c.in-Named.is reaches back

pub returns-clause-turned : goal.returns-clause-turned
returns-clause-turned g c =
    let readers = c.args.readers.now in
    let edges = g.G.Adjacent.edges readers.graph.now in
    let objects = g.G.ValueOf.objects readers.graph.now in
    met_turned readers.labels.now edges objects (bound_path c.args.path.now) (bound_path c.args.other.now) _ (returns-clause-own g c)
