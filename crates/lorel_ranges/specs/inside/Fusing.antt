-- Fusing in one pass from the front: each range is kept, or joins the only later one that starts at it.
use Rattle.std.specs.Prelude.{ℕ, List, [], ◌++◌, All, count_by}
use Rattle.lorel_ranges.specs.Places.{Place}
use Rattle.lorel_ranges.specs.Ranges.{PlacedRange, IsFusable, FusesTimes}
use Rattle.lorel_ranges.specs.inside.Equality.{same_place}
use Rattle.lorel_ranges.specs.inside.Orders.{AreOrdered}

-- how many of the ranges start at the place
abbrev pub start_count : Place → List PlacedRange → ℕ
start_count place ranges = count_by (λ range. same_place range.start place) ranges

-- of the ranges that came from the plain ones some are kept, none of which can be fused any more, and the others are left
pub record IsHalfFused (Used : Place → Type 0) (plain kept left : List PlacedRange) : Type 0 where
  pub times : ℕ
  pub steps : FusesTimes Used times plain (kept ++ left)
  pub ordered : AreOrdered [] (kept ++ left)
  pub settled : All (λ range. IsFusable Used (kept ++ left) range → ⊥) kept
