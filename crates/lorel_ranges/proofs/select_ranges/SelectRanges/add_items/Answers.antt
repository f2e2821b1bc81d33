use Rattle.std.proofs.Common.{◌+◌, map, drop, arith}
use Rattle.lorel_trees.specs.Trees.{from_tree}
use Rattle.lorel_ranges.specs.Views.{place_tree, place_trees, ranges_of}
use Rattle.lorel_ranges.proofs.MakingLaws.{drop_read, items_step}
use Rattle.lorel_ranges.proofs.select_ranges.SelectRanges.add_items.Goals as goal

pub items-preserved : goal.items-preserved
items-preserved c = record {
  fresh = c.in_ok-add_item.ensures.fresh;
  made = λ ranges later. c.items.invariant.made ranges
      (items_step (drop c.items.number (map from_tree c.args.items.now)) (drop (c.items.number + 1) (map from_tree c.args.items.now))
      (from_tree c.index-items-number.result) (drop c.items.number (place_trees c.args.paths.now)) (drop (c.items.number + 1) (place_trees c.args.paths.now))
      (place_tree c.index-paths-number.result) (ranges_of c.items.self.fused.items) (ranges_of c.add_item.new.self.fused.items) ranges
      (drop_read from_tree c.args.items.now c.items.number c.index-items-number.result c.items-test.true c.index-items-number.is)
      (drop_read place_tree c.args.paths.now c.items.number c.index-paths-number.result (omega arith) c.index-paths-number.is)
      c.in_ok-add_item.ensures.made later);
}
