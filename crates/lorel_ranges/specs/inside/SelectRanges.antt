-- Ranges as the program keeps them: their places, which ranges start at each, and which are used.
use Rattle.std.specs.Prelude.{◌≡◌, ◌≢◌, ◌↔◌, ℕ, ◌+◌, ◌<◌, ◌⊎◌, suc, List, [], ◌∷◌, ◌++◌, take, drop, Some, true, false, All, Contains, slice_get}
use Rattle.lore_base.specs.Paths.{PathTree}
use Rattle.lorel_trees.specs.Trees.{FromTree}
use Rattle.lorel_ranges.specs.Places.{Place, CellPlace, word}
use Rattle.lorel_ranges.specs.Ranges.{PlacedRange, from_item_ranges, places, IsFixed}
use Rattle.lorel_ranges.specs.inside.Fusing.{start_count}
use Rattle.lorel_ranges.specs.Views.{place_tree, place_trees, prefix_of, range_of, ranges_of}
use Rattle.lorel_ranges.specs.declared.select_ranges.TextRange.{TextRange}
use Rattle.lorel_ranges.specs.declared.select_ranges.SelectRanges.{SelectRanges}
use Rattle.lorel_ranges.specs.declared.select_ranges.Followers.{Followers}
use Rattle.lorel_ranges.specs.declared.select_ranges.Followers.TheVariants.{None, One, Several}

-- no item stands at two places
abbrev pub IsOnce : {X : Type 0} → List X → Type 0
IsOnce xs = (i j : ℕ) (x : _) → slice_get xs i ≡ Some x → slice_get xs j ≡ Some x → i ≡ j

-- ---- following
-- the range with this number starts at the place
abbrev pub HasStart : List PlacedRange → Place → ℕ → Type 0
HasStart ranges place number = (range : PlacedRange) × (slice_get ranges number ≡ Some range) × (range.start ≡ place)

-- which of the ranges behind a place start at it, where they are numbered from the first on: none, one, or several
abbrev pub IsFollowed : ℕ → List PlacedRange → Place → Followers → Type 0
IsFollowed first behind place None = start_count place behind ≡ 0
IsFollowed first behind place (One number) =
    (start_count place behind ≡ 1) × ((offset : ℕ) × (number ≡ first + offset) × HasStart behind place offset)
IsFollowed first behind place Several = 1 < start_count place behind

-- a further range follows
abbrev pub further : Followers → ℕ → Followers
further None number = One number
further _ number = Several

-- of ranges that are numbered from the first on none is joined yet, and each knows the ranges behind it that start at it
abbrev pub AreFollowed : ℕ → List TextRange → Type 0
AreFollowed first [] = Unit {0}
AreFollowed first (range ∷ ranges) = (range.joined ≡ false)
    × IsFollowed (suc first) (ranges_of ranges) (place_tree range.place) range.followers × AreFollowed (suc first) ranges

-- a further range with this number starts at the place
pub record GainsFollower (place : Place) (number : ℕ) (old new : TextRange) : Type 0 where
  pub range : range_of new ≡ range_of old
  pub joined : new.joined ≡ old.joined
  pub used : new.used ≡ old.used
  pub here : place_tree old.place ≡ place → new.followers ≡ further old.followers number
  pub elsewhere : place_tree old.place ≢ place → new.followers ≡ old.followers

-- ---- making
-- the range of a path that has so many parts before its own
abbrev pub part_range : Place → ℕ → PlacedRange
part_range path len = record {
  start = prefix_of len path;
  parts = take 1 (drop len path.parts);
  place = prefix_of (len + 1) path;
}

-- the ranges of from items whose paths stand for these places
abbrev pub item_ranges : List FromTree → List Place → List PlacedRange
item_ranges (item ∷ items) (path ∷ paths) = from_item_ranges item.variable path ++ item_ranges items paths
item_ranges _ _ = []

-- the ranges with their places, and with what follows each
pub record AreLinked (ranges : SelectRanges) : Type 0 where
  pub same : place_trees ranges.plain ≡ places (ranges_of ranges.fused.items)
  pub once : IsOnce (places (ranges_of ranges.fused.items))
  pub followed : AreFollowed 0 ranges.fused.items

-- and none is marked yet
pub record AreFresh (ranges : SelectRanges) : Type 0 where
  pub linked : AreLinked ranges
  pub unused : All (λ range. range.used ≡ false) ranges.fused.items

-- a range is put behind those that are there, and its place isn't put behind theirs yet
pub record ArePushed (old new : SelectRanges) (start : Place) (parts : List PathTree) (place : Place) : Type 0 where
  pub plain : new.plain ≡ old.plain
  pub ranges : ranges_of new.fused.items
      ≡ ranges_of old.fused.items ++ record { start = start; parts = parts; place = place } ∷ []
  pub followed : AreFollowed 0 new.fused.items
  pub unused : All (λ range. range.used ≡ false) new.fused.items

-- ---- marks
-- a range with this place is marked as used
abbrev pub IsMarked : List TextRange → Place → Type 0
IsMarked ranges place = (range : TextRange) × Contains ranges range × (place_tree range.place ≡ place) × (range.used ≡ true)

-- a range has the place of a word, and the other place is its own or that which it starts at
abbrev pub IsNeededAt : List PlacedRange → Place → Place → Type 0
IsNeededAt ranges shown place =
    (range : PlacedRange) × Contains ranges range × (range.place ≡ shown) × ((range.place ≡ place) ⊎ (range.start ≡ place))

-- so for one of the words that cells show
abbrev pub IsNeededOf : List PlacedRange → List CellPlace → Place → Type 0
IsNeededOf ranges cells place = (shown : Place) × Contains cells (word shown) × IsNeededAt ranges shown place

-- one of the paths is fixed at the place
abbrev pub IsFixedOf : List PlacedRange → List Place → Place → Type 0
IsFixedOf ranges paths place =
    (path : Place) × (rest : List PathTree) × Contains paths path × IsFixed ranges path place rest

-- exactly the ranges with such places are marked besides those that are
pub record AreMarked (old new : SelectRanges) (Marks : Place → Type 0) : Type 0 where
  pub plain : new.plain ≡ old.plain
  pub ranges : ranges_of new.fused.items ≡ ranges_of old.fused.items
  pub linked : AreLinked new
  pub marked : (place : Place) → IsMarked new.fused.items place
      ↔ (IsMarked old.fused.items place ⊎ (Marks place × Contains (places (ranges_of old.fused.items)) place))
