use Rattle.std.proofs.Common.{◌≡◌, [], ◌+◌, take}
use Rattle.std.specs.List.{Contains}
use Rattle.lore_base.proofs.MemberLaws.{Contains-none}
use Rattle.lorel_ranges.specs.Places.{Place}
use Rattle.lorel_ranges.specs.Views.{place_tree, place_trees}
use Rattle.lorel_ranges.proofs.MarkLaws.{marked_none, marked_then, places_step}
use Rattle.lorel_ranges.proofs.select_ranges.SelectRanges.mark_places.Goals as goal

pub places-init : goal.places-init
places-init c = marked_none c.args.self.now (Contains []) c.requires.linked (λ place none at. Contains-none place none)

pub places-preserved : goal.places-preserved
places-preserved c =
    marked_then c.args.self.now c.places.self c.mark.new.self (Contains (take c.places.place-index (place_trees c.args.places.now)))
    (λ (other : Place). other ≡ place_tree c.place-item.result) (Contains (take (c.places.place-index + 1) (place_trees c.args.places.now)))
    c.places.invariant c.mark.ensures
    (places_step c.args.places.now c.places.place-index c.place-item.result c.places-test.true c.place-item.is)
