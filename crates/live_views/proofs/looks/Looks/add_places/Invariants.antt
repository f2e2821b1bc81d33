use Rattle.std.proofs.Common.{◌≡◌, List, ◌++◌, take}
use Rattle.lorel_ranges.specs.Places.{Place}
use Rattle.lorel_ranges.specs.Views.{place_trees}
use Rattle.live_views.specs.inside.Looks.{LooksAt}
use Rattle.live_views.proofs.looks.Looks.add_places.Given as goal

abbrev pub invariant-places : goal.invariant-places
invariant-places l = record {
  places : (earlier : List Place) → LooksAt earlier l.fn.self → LooksAt (earlier ++ place_trees (take l.place-index l.places)) l.self;
  compares : l.self.compares ≡ l.fn.self.compares;
}
