use Rattle.std.proofs.Common.{List, [], ◌∷◌, ◌+◌, take, subst}
use Rattle.lore_base.proofs.MemberLaws.{Contains-none}
use Rattle.lorel_ranges.specs.Places.{word}
use Rattle.lorel_ranges.specs.Ranges.{PlacedRange}
use Rattle.lorel_ranges.specs.Views.{shown_tree, shown_trees, ranges_of}
use Rattle.lorel_ranges.specs.inside.SelectRanges.{AreMarked, IsNeededOf}
use Rattle.lorel_ranges.proofs.MarkLaws.{marked_none, marked_then, words_step}
use Rattle.lorel_ranges.proofs.select_ranges.SelectRanges.mark_words.Goals as goal

pub shown-init : goal.shown-init
shown-init c =
    marked_none c.args.self.now (IsNeededOf (ranges_of c.args.self.now.fused.items) []) c.requires.linked
    (λ place needed at. Contains-none (word needed.0) needed.1)

pub shown-preserved : goal.shown-preserved
shown-preserved c =
    let ranges = ranges_of c.args.self.now.fused.items in
    let cell = shown_tree c.cell-item.result ∷ [] in
    marked_then c.args.self.now c.shown.self c.mark_cell.new.self (IsNeededOf ranges (take c.shown.cell-index (shown_trees c.args.shown.now)))
    (IsNeededOf ranges cell) (IsNeededOf ranges (take (c.shown.cell-index + 1) (shown_trees c.args.shown.now))) c.shown.invariant
    (subst (λ (rs : List PlacedRange). AreMarked c.shown.self c.mark_cell.new.self (IsNeededOf rs cell)) c.shown.invariant.ranges c.mark_cell.ensures)
    (words_step ranges c.args.shown.now c.shown.cell-index c.cell-item.result c.shown-test.true c.cell-item.is)
