use Rattle.std.proofs.Common.{◌≡◌, take, Some, All}
use Rattle.std.specs.List.{slice_get}
use Rattle.lorel_ranges.specs.Views.{place_tree, place_trees}
use Rattle.lorel_ranges.proofs.plain_places.number_of.Given as goal

abbrev pub invariant-numbers : goal.invariant-numbers
invariant-numbers l =
    All (λ number. slice_get (place_trees l.places) number ≡ Some (place_tree l.place) → ⊥) (take l.number-index l.numbers)
