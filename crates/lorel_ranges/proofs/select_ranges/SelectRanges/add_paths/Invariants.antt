use Rattle.std.proofs.Common.{List, drop}
use Rattle.std.specs.List.{flat_map}
use Rattle.lorel_ranges.specs.Ranges.{PlacedRange, path_ranges, AreGathered}
use Rattle.lorel_ranges.specs.Views.{place_trees, ranges_of}
use Rattle.lorel_ranges.specs.inside.SelectRanges.{AreFresh}
use Rattle.lorel_ranges.proofs.select_ranges.SelectRanges.add_paths.Given as goal

abbrev pub invariant-paths : goal.invariant-paths
invariant-paths l = record {
  fresh : AreFresh l.self;
  made : (ranges : List PlacedRange)
      → AreGathered (ranges_of l.self.fused.items) (flat_map path_ranges (drop l.path-index (place_trees l.paths))) ranges
      → AreGathered (ranges_of l.fn.self.fused.items) (flat_map path_ranges (place_trees l.paths)) ranges;
}
