use Rattle.lore_base.specs.Paths.{path_tree}
use Rattle.lore_base.specs.TargetSets.{ListsInOrder}
use Rattle.product_walk.specs.ProductWalks.{ReachesInto}
use Rattle.index_eval.proofs.EndLaws.{extended}
use Rattle.index_eval.proofs.ends.objects_back.Goals as goal

pub returns : goal.returns
returns g c =
    let readers = c.args.readers.now in
    extended (ListsInOrder (ReachesInto readers.labels.now (g.K.Links.edges readers.links.now) (path_tree c.args.way.now) c.args.to.now))
    c.new-oids.result c.reach_back.new.buf c.new-oids.ensures c.in_ok-reach_back.ensures.objects
