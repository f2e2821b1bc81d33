use Rattle.std.proofs.Common.{take}
use Rattle.lorel_ranges.specs.Views.{place_trees, ranges_of}
use Rattle.lorel_ranges.specs.inside.SelectRanges.{AreMarked, IsFixedOf}
use Rattle.lorel_ranges.proofs.select_ranges.SelectRanges.mark_fixed.Given as goal

abbrev pub invariant-paths : goal.invariant-paths
invariant-paths l = AreMarked l.fn.self l.self (IsFixedOf (ranges_of l.fn.self.fused.items) (take l.path-index (place_trees l.paths)))
