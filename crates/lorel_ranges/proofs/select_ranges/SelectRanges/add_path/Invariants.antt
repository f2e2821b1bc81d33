use Rattle.std.proofs.Common.{List, drop}
use Rattle.lorel_ranges.specs.Ranges.{PlacedRange, prefix_ranges, path_ranges, AreGathered}
use Rattle.lorel_ranges.specs.Views.{place_tree, prefix_of, ranges_of}
use Rattle.lorel_ranges.specs.inside.SelectRanges.{AreFresh}
use Rattle.lorel_ranges.proofs.select_ranges.SelectRanges.add_path.Given as goal

abbrev pub invariant-prefixes : goal.invariant-prefixes
invariant-prefixes l = record {
  fresh : AreFresh l.self;
  made : (ranges : List PlacedRange)
      → AreGathered (ranges_of l.self.fused.items) (prefix_ranges (prefix_of l.len (place_tree l.path)) (drop l.len (place_tree l.path).parts)) ranges
      → AreGathered (ranges_of l.fn.self.fused.items) (path_ranges (place_tree l.path)) ranges;
}
