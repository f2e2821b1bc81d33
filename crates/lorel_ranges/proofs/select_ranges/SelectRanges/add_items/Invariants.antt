use Rattle.std.proofs.Common.{List, map, drop}
use Rattle.lorel_trees.specs.Trees.{from_tree}
use Rattle.lorel_ranges.specs.Ranges.{PlacedRange, AreGathered}
use Rattle.lorel_ranges.specs.Views.{place_trees, ranges_of}
use Rattle.lorel_ranges.specs.inside.SelectRanges.{AreFresh, item_ranges}
use Rattle.lorel_ranges.proofs.select_ranges.SelectRanges.add_items.Given as goal

abbrev pub invariant-items : goal.invariant-items
invariant-items l = record {
  fresh : AreFresh l.self;
  made : (ranges : List PlacedRange)
      → AreGathered (ranges_of l.self.fused.items)
      (item_ranges (drop l.number (map from_tree l.items)) (drop l.number (place_trees l.paths))) ranges
      → AreGathered (ranges_of l.fn.self.fused.items) (item_ranges (map from_tree l.items) (place_trees l.paths)) ranges;
}
