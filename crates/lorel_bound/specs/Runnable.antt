-- What running a bound select rests on.
use Rattle.std.specs.Prelude.{ℕ, ◌+◌, ◌<◌, ◌≤◌, suc, List, [], ◌∷◌, length, sum_by, All}
use Rattle.lore_base.specs.Paths.{leaves}
use Rattle.lorel_bound.specs.Types.{Start, BoundStart, RANGES, LEAVES, CellOf}
use Rattle.lorel_bound.specs.Types.starts
use Rattle.lorel_bound.specs.Types.bound_starts
use Rattle.lorel_bound.specs.Types.shown
use Rattle.lorel_bound.specs.Conditions.{paths_in}
use Rattle.lorel_bound.specs.Bound.{RangeTree, BoundTree}

-- a start is an object or one of so many slots
abbrev pub IsWithin : ℕ → Start → Type 0
IsWithin count (starts.Named oid) = Unit {0}
IsWithin count (starts.Slot slot) = slot < count

-- and so for a cell
abbrev pub IsCellWithin : ℕ → CellOf → Type 0
IsCellWithin count (shown.Object start) = IsWithin count start
IsCellWithin count (shown.PathOf slot) = slot < count

-- each range starts at an object or at an earlier range, where so many are earlier than the first
abbrev pub AreInOrder : ℕ → List RangeTree → Type 0
AreInOrder count [] = Unit {0}
AreInOrder count (range ∷ others) = IsWithin count range.start × AreInOrder (suc count) others

abbrev pub IsBoundWithin : ℕ → BoundStart → Type 0
IsBoundWithin count (bound_starts.Slot slot) = slot < count
IsBoundWithin count _ = Unit {0}

-- few ranges and few leaves, and starts that are there before they are needed
pub record IsRunnable (bound : BoundTree) : Type 0 where
  pub few_ranges : length bound.ranges ≤ RANGES
  pub few_leaves : sum_by (λ range. leaves range.path) bound.ranges
      + sum_by (λ path. leaves path.rest) (paths_in bound.cond) ≤ LEAVES
  pub in_order : AreInOrder 0 bound.ranges
  pub cells_within : All (IsCellWithin (length bound.ranges)) bound.cells
  pub condition_within : All (λ path. IsBoundWithin (length bound.ranges) path.start) (paths_in bound.cond)
