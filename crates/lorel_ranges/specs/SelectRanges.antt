-- The ranges of a select as the program gives them: the fused ones, and the places of the plain ones.
use Rattle.std.specs.Prelude.{◌≡◌, List}
use Rattle.lorel_trees.specs.Trees.{SelectTree}
use Rattle.lorel_ranges.specs.Ranges.{PlacedRange, places, ArePlain, AreFused, IsUsed}
use Rattle.lorel_ranges.specs.Views.{place_trees}
use Rattle.lorel_ranges.specs.declared.places.Place.{Place}

-- the fused ranges of a select, and the places of its plain ones
pub record AreRangesOf (query : SelectTree) (plain : List Place) (fused : List PlacedRange) : Type 0 where
  pub ranges : List PlacedRange
  pub made : ArePlain query ranges
  pub places : places ranges ≡ place_trees plain
  pub fuses : AreFused (IsUsed query ranges) ranges fused
