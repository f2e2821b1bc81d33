use Rattle.std.proofs.Common.{take}
use Rattle.std.specs.List.{Contains}
use Rattle.lorel_ranges.specs.Views.{place_trees}
use Rattle.lorel_ranges.specs.inside.SelectRanges.{AreMarked}
use Rattle.lorel_ranges.proofs.select_ranges.SelectRanges.mark_places.Given as goal

abbrev pub invariant-places : goal.invariant-places
invariant-places l = AreMarked l.fn.self l.self (Contains (take l.place-index (place_trees l.places)))
