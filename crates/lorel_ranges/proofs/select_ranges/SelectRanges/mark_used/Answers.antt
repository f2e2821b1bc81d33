use Rattle.std.proofs.Common.{List, subst}
use Rattle.std.specs.List.{Contains}
use Rattle.lorel_ranges.specs.declared.places.Place.{Place}
use Rattle.lorel_ranges.specs.declared.text.Shown.{Shown}
use Rattle.lorel_ranges.specs.Views.{place_trees, shown_trees, ranges_of}
use Rattle.lorel_ranges.specs.inside.SelectRanges.{AreMarked, IsNeededOf, IsFixedOf}
use Rattle.lorel_ranges.proofs.MarkLaws.{marked_used}
use Rattle.lorel_ranges.proofs.select_ranges.SelectRanges.mark_used.Goals as goal

pub returns-clause-marked : goal.returns-clause-marked
returns-clause-marked c query =
    let middle = c.mark_places.new.self in
    let third = c.mark_words.new.self in
    λ place is at. marked_used c.args.self.now middle third c.mark_fixed.new.self query c.args.text.now c.requires.fresh
    (subst (λ (all : List Place). AreMarked c.args.self.now middle (Contains (place_trees all))) c.as_slice.ensures.value c.mark_places.ensures)
    (subst (λ (all : List Shown). AreMarked middle third (IsNeededOf (ranges_of middle.fused.items) (shown_trees all)))
    c.as_slice-2.ensures.value c.mark_words.ensures)
    (subst (λ (all : List Place). AreMarked third c.mark_fixed.new.self (IsFixedOf (ranges_of third.fused.items) (place_trees all)))
    c.as_slice-3.ensures.value c.mark_fixed.ensures) is place at
