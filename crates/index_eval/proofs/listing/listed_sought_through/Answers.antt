use Rattle.std.proofs.Common.{List, Option, IfSome, subst}
use Rattle.lore_base.specs.Paths.{path_tree}
use Rattle.lore_base.specs.TargetSets.{ListsInOrder}
use Rattle.lorel_bound.specs.Bound.{bound_path}
use Rattle.product_walk.specs.ProductWalks.{ReachesInto}
use Rattle.index_eval.specs.Types.{Oid, Path}
use Rattle.index_eval.specs.inside.Listing.{AreEndsOf}
use Rattle.index_eval.proofs.ListedLaws.{through_objects}
use Rattle.index_eval.proofs.listing.listed_sought_through.Goals as goal

pub returns : goal.returns
returns g c =
    let readers = c.args.readers.now in
    let edges = g.G.Adjacent.edges readers.graph.now in
    let objects = g.G.ValueOf.objects readers.graph.now in
    let links = g.K.Links.edges readers.links.now in
    let entries = g.V.Values.entries readers.values.now in
    let path = bound_path c.args.path.now in
    let inner = bound_path c.args.inner.now in
    let ends = subst (λ (found : Option (List Oid)). IfSome found (AreEndsOf readers.labels.now entries inner.rest c.args.op c.args.value.now)) c.in-Some.is
    c.in_ok-ends.ensures in
    let within = subst (λ (way : Path). ListsInOrder (ReachesInto readers.labels.now links (path_tree way) c.in-Some.ends) c.in_ok-between.between)
    c.in_ok-within.ensures c.in_ok-between.ensures in
    let back = subst (λ (way : Path). ListsInOrder (ReachesInto readers.labels.now links (path_tree way) c.in_ok-between.between) c.in_ok-oids.oids)
    c.in_ok-way.ensures c.in_ok-oids.ensures in
    through_objects readers.labels.now edges objects links entries c.requires.distinct c.requires.indexes c.in-Some-slot_at.slot path inner c.args.op
    c.args.value.now c.in-Some.ends c.in_ok-between.between c.in_ok-oids.oids c.in-Some-slot_at.ensures (c.is_inside.ensures c.if-not-is_inside.false)
    ends within back
