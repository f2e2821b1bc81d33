-- The order of ranges: each stands behind the one that it starts at, and no two have one place.
use Rattle.std.specs.Prelude.{◌≡◌, ℕ, ◌⊎◌, List, [], ◌∷◌, ◌++◌, Contains}
use Rattle.lorel_ranges.specs.Places.{named, quantified, Place, at_root}
use Rattle.lorel_ranges.specs.Ranges.{PlacedRange}

-- the place of a name
abbrev pub IsNamed : Place → Type 0
IsNamed place = (name : List ℕ) × (place ≡ at_root (named name))

-- a place that a range may have: it isn't that of a name, and doesn't start at a quantifier
pub record IsOpen (place : Place) : Type 0 where
  pub unnamed : IsNamed place → ⊥
  pub unquantified : (depth : ℕ) → place.root ≡ quantified depth → ⊥

-- the start is a name or one of these places
abbrev pub IsFound : List Place → Place → Type 0
IsFound earlier start = IsNamed start ⊎ Contains earlier start

-- a range behind those that have these places
pub record IsPlaced (earlier : List Place) (range : PlacedRange) : Type 0 where
  pub found : IsFound earlier range.start
  pub is_open : IsOpen range.place
  pub is_new : Contains earlier range.place → ⊥

-- ranges behind those that have these places, in order
abbrev pub AreOrdered : List Place → List PlacedRange → Type 0
AreOrdered earlier [] = Unit {0}
AreOrdered earlier (range ∷ others) = IsPlaced earlier range × AreOrdered (earlier ++ range.place ∷ []) others
