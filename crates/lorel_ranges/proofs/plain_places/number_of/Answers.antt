use Rattle.std.proofs.Common.{◌≡◌, ℕ, List, Some, All, get_or, subst}
use Rattle.std.specs.List.{slice_get}
use Rattle.std.proofs.lemmas.Bool.{both_ways}
use Rattle.std.proofs.lemmas.List.{take_all}
use Rattle.std.proofs.lemmas.List.Elements.{All-more}
use Rattle.lorel_ranges.specs.Views.{place_tree, place_trees}
use Rattle.lorel_ranges.proofs.FindLaws.{place_read}
use Rattle.lorel_ranges.proofs.plain_places.number_of.Goals as goal

pub numbers-preserved : goal.numbers-preserved
numbers-preserved c =
    All-more (λ (number : ℕ). slice_get (place_trees c.args.places.now) number ≡ Some (place_tree c.args.place) → ⊥)
    c.args.numbers.now c.numbers.number-index 0 c.numbers-test.true c.numbers.invariant
    (λ stands. both_ways c.same_place.result c.if-same_place.false (c.same_place.ensures.1
    (place_read c.args.places.now (get_or c.args.numbers.now c.numbers.number-index 0) c.index-places-number.result
    (place_tree c.args.place) c.index-places-number.is stands)))

pub returns-clause-none : goal.returns-clause-none
returns-clause-none c =
    subst (λ (numbers : List ℕ). All (λ (number : ℕ). slice_get (place_trees c.args.places.now) number ≡ Some (place_tree c.args.place) → ⊥) numbers)
    (take_all c.numbers.number-index c.args.numbers.now c.numbers-test.false) c.numbers.invariant
