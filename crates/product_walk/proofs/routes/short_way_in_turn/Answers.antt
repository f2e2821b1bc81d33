use Rattle.std.proofs.Common.{arith}
use Rattle.lore_base.specs.Paths.{path_trees}
use Rattle.product_walk.proofs.WayLaws.{one_way}
use Rattle.product_walk.proofs.routes.short_way_in_turn.Goals as goal

pub returns-in-len1 : goal.returns-in-len1
returns-in-len1 c =
    one_way c.as_slice.result.now (path_trees c.args.parts.now) c.part-item.result c.one_label.result c.as_slice.ensures.trees
    (omega (arith, c.in-len1.len_below, c.in-len1.len_at_least)) c.part-item.is c.one_label.ensures
