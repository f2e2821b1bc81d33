use Rattle.product_walk.specs.inside.StateSets.{same_oid}
use Rattle.product_walk.proofs.ProductLaws.{lists_sorted}
use Rattle.word_walks.proofs.levels.put_in_order.Goals as goal

pub returns-then-not-ascends : goal.returns-then-not-ascends
returns-then-not-ascends c = lists_sorted c.args.oids.now c.sort_set.new.self c.sort_set.ensures.ascend (c.sort_set.ensures.members same_oid)
