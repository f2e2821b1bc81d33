use Rattle.std.proofs.Common.{◌≡◌, ◌+◌, ◌-◌, ◌^◌, ◌<◌, min, drop}
use Rattle.lorel_bind.specs.Refusals.{leaves_in}
use Rattle.lorel_ranges.specs.Views.{place_trees}
use Rattle.lorel_bind.proofs.causes.leaves_of_places.Given as goal

abbrev pub invariant-places : goal.invariant-places
invariant-places l = record {
  so_far : min (2 ^ 64 - 1) (l.count + leaves_in (place_trees (drop l.place-index l.places))) ≡ min (2 ^ 64 - 1) (leaves_in (place_trees l.places));
  fits : l.count < 2 ^ 64;
}
