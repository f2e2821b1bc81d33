use Rattle.std.proofs.Common.{[], ◌∷◌, sym, subst}
use Rattle.lorel_ranges.specs.Places.{object}
use Rattle.lorel_ranges.specs.Views.{place_tree, shown_tree, ranges_of}
use Rattle.lorel_ranges.specs.inside.SelectRanges.{AreMarked, IsNeededOf}
use Rattle.lorel_ranges.specs.declared.text.Shown.{Shown}
use Rattle.lorel_ranges.proofs.MarkLaws.{marked_shown, marked_none, wordless}
use Rattle.lorel_ranges.proofs.select_ranges.SelectRanges.mark_cell.Goals as goal

pub returns-in-Object : goal.returns-in-Object
returns-in-Object c =
    let old = c.args.self.now in
    let ranges = ranges_of old.fused.items in
    let place = place_tree c.in-Object.field-0 in
    subst (λ (cell : Shown). AreMarked old old (IsNeededOf ranges (shown_tree cell ∷ []))) (sym c.in-Object.is)
    (marked_none old (IsNeededOf ranges (object place ∷ [])) c.requires.linked (λ other needed at. wordless ranges place other needed))

pub returns-in-Word : goal.returns-in-Word
returns-in-Word c =
    let old = c.args.self.now in
    subst (λ (cell : Shown). AreMarked old c.mark_word.new.self (IsNeededOf (ranges_of old.fused.items) (shown_tree cell ∷ []))) (sym c.in-Word.is)
    (marked_shown old c.mark_word.new.self (place_tree c.in-Word.place) c.mark_word.ensures)
