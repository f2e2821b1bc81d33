use Rattle.std.proofs.Common.{take}
use Rattle.lorel_ranges.specs.Views.{shown_trees, ranges_of}
use Rattle.lorel_ranges.specs.inside.SelectRanges.{AreMarked, IsNeededOf}
use Rattle.lorel_ranges.proofs.select_ranges.SelectRanges.mark_words.Given as goal

abbrev pub invariant-shown : goal.invariant-shown
invariant-shown l = AreMarked l.fn.self l.self (IsNeededOf (ranges_of l.fn.self.fused.items) (take l.cell-index (shown_trees l.shown)))
