-- Ranges that are joined: a range goes into the only one that starts at it.
use Rattle.std.specs.Prelude.{◌≡◌, ◌↔◌, ℕ, ◌+◌, suc, List, ◌∷◌, ◌++◌, length, true, not, filter, All}
use denote.Ref.{Bor}
use Rattle.lore_base.specs.declared.paths.Path.{Path}
use Rattle.lorel_ranges.specs.inside.Fusing.{IsHalfFused}
use Rattle.lorel_ranges.specs.Views.{place_tree, ranges_of}
use Rattle.lorel_ranges.specs.inside.SelectRanges.{AreFollowed, IsMarked}
use Rattle.lorel_ranges.specs.declared.places.Place.{Place}
use Rattle.lorel_ranges.specs.declared.select_ranges.TextRange.{TextRange}

-- a range starts where another one did, and leads on from there by that one's parts and then by its own
pub record TakesOver (start : Place) (parts : List (Bor Path)) (old new : TextRange) : Type 0 where
  pub start_is : new.start ≡ start
  pub parts_are : new.parts.items ≡ parts ++ old.parts.items
  pub place_is : new.place ≡ old.place
  pub used_is : new.used ≡ old.used
  pub followers_are : new.followers ≡ old.followers
  pub joined_is : new.joined ≡ old.joined

-- the range with a number is joined with a later one, in that one's place
pub record IsJoined (number later : ℕ) (old new : List TextRange) : Type 0 where
  pub front : List TextRange
  pub first : TextRange
  pub middle : List TextRange
  pub second : TextRange
  pub back : List TextRange
  pub gone : TextRange
  pub both : TextRange
  pub was : old ≡ front ++ first ∷ (middle ++ second ∷ back)
  pub is : new ≡ front ++ gone ∷ (middle ++ both ∷ back)
  pub first_at : number ≡ length front
  pub second_at : later ≡ suc number + length middle
  pub is_gone : gone.joined ≡ true
  pub takes : TakesOver first.start first.parts.items second both

-- the ranges that aren't joined with another
abbrev pub remaining : List TextRange → List TextRange
remaining ranges = filter (λ range. not range.joined) ranges

-- so many of the ranges have been looked at. Of the others each knows who follows it and whether it is used
pub record IsPassing (plain : List TextRange) (number : ℕ) (ranges : List TextRange) : Type 0 where
  pub front : List TextRange
  pub left : List TextRange
  pub are : ranges ≡ front ++ left
  pub count : number ≡ length front
  pub half : IsHalfFused (IsMarked plain) (ranges_of plain) (ranges_of (remaining front)) (ranges_of left)
  pub followed : AreFollowed number left
  pub told : All (λ range. (range.used ≡ true) ↔ IsMarked plain (place_tree range.place)) left
