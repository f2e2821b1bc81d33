-- The ranges of a select: what its paths range over, which of them are used, and how unused ones are fused.
use Rattle.std.specs.Prelude.{◌≡◌, ◌≢◌, ℕ, zero, suc, ◌⊎◌, List, [], ◌∷◌, ◌++◌, map, Option, Some, None, All, Contains}
use Rattle.std.specs.List.{flat_map}
use Rattle.lore_base.specs.Paths.{PathTree}
use Rattle.lorel_trees.specs.Trees.{FromTree, SelectTree}
use Rattle.lorel_ranges.specs.Places.{ranged, Place, at_root, beyond, Scope, place_of, scope_behind, cell_places, word, cells_of}
use Rattle.lorel_ranges.specs.Conditions.{cond_places}

-- a range gives an object to a place: one that its path reaches from the object at its start
pub record PlacedRange : Type 0 where
  pub start : Place
  pub parts : List PathTree
  pub place : Place

-- the ranges of the prefixes of a path, from the shortest on: each goes on by one part from the one before it
abbrev pub prefix_ranges : Place → List PathTree → List PlacedRange
prefix_ranges start [] = []
prefix_ranges start (part ∷ parts) =
    record { start = start; parts = part ∷ []; place = beyond start (part ∷ []) }
    ∷ prefix_ranges (beyond start (part ∷ [])) parts

abbrev pub path_ranges : Place → List PlacedRange
path_ranges place = prefix_ranges (at_root place.root) place.parts

-- a from item with a variable is one range by itself, with the whole path as its path
abbrev pub from_item_ranges : Option (List ℕ) → Place → List PlacedRange
from_item_ranges (Some variable) place =
    record { start = at_root place.root; parts = place.parts; place = at_root (ranged variable) } ∷ []
from_item_ranges None place = path_ranges place

-- the ranges that from items make, where the variables of earlier ones are in scope
abbrev pub from_ranges : Scope → List FromTree → List PlacedRange
from_ranges scope [] = []
from_ranges scope (item ∷ items) =
    from_item_ranges item.variable (place_of scope item.path) ++ from_ranges (scope_behind item.variable scope) items

-- the ranges that a select makes, in order: those of its from items, then those of its items
abbrev pub made_ranges : SelectTree → List PlacedRange
made_ranges query = from_ranges [] query.tail.ranges ++ flat_map path_ranges (cell_places query)

abbrev pub places : List PlacedRange → List Place
places ranges = map (λ range. range.place) ranges

-- of ranges of one place the first stands for all
abbrev pub AreGathered : List PlacedRange → List PlacedRange → List PlacedRange → Type 0
AreGathered earlier [] ranges = ranges ≡ earlier
AreGathered earlier (range ∷ made) ranges =
    (Contains (places earlier) range.place × AreGathered earlier made ranges)
    ⊎ ((Contains (places earlier) range.place → ⊥) × AreGathered (earlier ++ range ∷ []) made ranges)

-- the plain ranges of a select: each place once, a start before what starts at it
abbrev pub ArePlain : SelectTree → List PlacedRange → Type 0
ArePlain query ranges = AreGathered [] (made_ranges query) ranges

-- the longest prefix of a path that is a range is fixed; without one its start is. What follows is the rest
pub record IsFixed (ranges : List PlacedRange) (path fixed : Place) (rest : List PathTree) : Type 0 where
  pub is : path ≡ beyond fixed rest
  pub stands : (fixed ≡ at_root path.root) ⊎ Contains (places ranges) fixed
  pub longest : (further others : List PathTree) → rest ≡ further ++ others
      → Contains (places ranges) (beyond fixed further) → further ≡ []

-- a cell shows the word of the range of this place, or of one that starts here
abbrev pub IsNeededForWord : SelectTree → List PlacedRange → Place → Type 0
IsNeededForWord query ranges place =
    (range : PlacedRange) × Contains ranges range × Contains (cells_of query) (word range.place)
    × ((range.place ≡ place) ⊎ (range.start ≡ place))

-- a range is used where a cell shows its object, or its word, or the word of one that starts at it, or where a path of
-- the condition is fixed at it
abbrev pub IsUsed : SelectTree → List PlacedRange → Place → Type 0
IsUsed query ranges place = Contains (cell_places query) place
    ⊎ (IsNeededForWord query ranges place
    ⊎ ((path : Place) × (rest : List PathTree) × Contains (cond_places query) path × IsFixed ranges path place rest))

-- of all ranges exactly one starts at the place
pub record IsOnlyStart (place : Place) (before : List PlacedRange) (other : PlacedRange) (after : List PlacedRange) : Type 0 where
  pub starts : other.start ≡ place
  pub none_before : All (λ range. range.start ≢ place) before
  pub none_after : All (λ range. range.start ≢ place) after

-- a range can be fused where it isn't used and is the start of exactly one other
pub record IsFusable (Used : Place → Type 0) (ranges : List PlacedRange) (range : PlacedRange) : Type 0 where
  pub unused : Used range.place → ⊥
  pub before : List PlacedRange
  pub other : PlacedRange
  pub after : List PlacedRange
  pub is : ranges ≡ before ++ other ∷ after
  pub only : IsOnlyStart range.place before other after

-- two ranges as one: from the start of the first by both paths to the place of the second
abbrev pub joined_range : PlacedRange → PlacedRange → PlacedRange
joined_range first second = record { start = first.start; parts = first.parts ++ second.parts; place = second.place }

-- the first range that can be fused is joined with the one that starts at it, in the place of that other one
pub record Fuses (Used : Place → Type 0) (old new : List PlacedRange) : Type 0 where
  pub front : List PlacedRange
  pub range : PlacedRange
  pub middle : List PlacedRange
  pub other : PlacedRange
  pub back : List PlacedRange
  pub was : old ≡ front ++ range ∷ (middle ++ other ∷ back)
  pub is : new ≡ front ++ (middle ++ joined_range range other ∷ back)
  pub fusable : IsFusable Used old range
  pub starts : other.start ≡ range.place
  pub first : All (λ earlier. IsFusable Used old earlier → ⊥) front

abbrev pub FusesTimes : (Place → Type 0) → ℕ → List PlacedRange → List PlacedRange → Type 0
FusesTimes Used zero old new = old ≡ new
FusesTimes Used (suc times) old new =
    (between : List PlacedRange) × Fuses Used old between × FusesTimes Used times between new

-- fused as long as a range can be
pub record AreFused (Used : Place → Type 0) (plain fused : List PlacedRange) : Type 0 where
  pub times : ℕ
  pub steps : FusesTimes Used times plain fused
  pub none : All (λ range. IsFusable Used fused range → ⊥) fused
