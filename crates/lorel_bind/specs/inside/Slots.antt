-- What the program finds of slots: starts, ranges and paths that are right wherever some start stands for the place.
use Rattle.std.specs.Prelude.{ℕ, List, Contains}
use Rattle.lore_base.specs.Paths.{PathTree}
use Rattle.lorel_bind.specs.Types.{Oid, Start, BoundStart, CellOf}
use Rattle.lorel_ranges.specs.Places.{Place, CellPlace, object, word}
use Rattle.lorel_ranges.specs.Ranges.{PlacedRange, IsFixed, places}
use Rattle.lorel_bound.specs.Bound.{RangeTree, BoundPathTree}
use Rattle.lorel_bind.specs.Bindings.{IsStartOfPlace, IsBoundStart, IsBoundRange, IsBoundCell, IsBoundPath}

-- over these names and fused ranges
module _ (names : List (List ℕ × Oid)) (fused : List PlacedRange) where
  -- some start stands for the place
  abbrev pub CanStart : Place → Type 0
  CanStart place = (start : Start) × IsStartOfPlace names fused place start

  -- and so in a condition
  abbrev pub CanStartAny : Place → Type 0
  CanStartAny place = (start : BoundStart) × IsBoundStart names fused place start

  -- where some start stands for the place, this one does
  abbrev pub Starts : Place → Start → Type 0
  Starts place start = CanStart place → IsStartOfPlace names fused place start

  -- and so in a condition
  abbrev pub StartsAny : Place → BoundStart → Type 0
  StartsAny place start = CanStartAny place → IsBoundStart names fused place start

  -- where some start stands for that of the range, it is bound
  abbrev pub BindsRange : PlacedRange → RangeTree → Type 0
  BindsRange range bound = CanStart range.start → IsBoundRange names fused range bound

  -- some start stands for what the cell shows, or a range has the place of its word
  abbrev pub CanShow : CellPlace → Type 0
  CanShow (object place) = CanStart place
  CanShow (word place) = Contains (places fused) place

  -- where that is so, the cell is bound
  abbrev pub BindsCell : CellPlace → CellOf → Type 0
  BindsCell cell bound = CanShow cell → IsBoundCell names fused cell bound

  -- some start stands for what the path is fixed at
  abbrev pub CanBind : List PlacedRange → Place → Type 0
  CanBind plain path = (fixed : Place) (rest : List PathTree) → IsFixed plain path fixed rest → CanStartAny fixed

  -- where that is so, the path is bound
  abbrev pub BindsPath : List PlacedRange → Place → BoundPathTree → Type 0
  BindsPath plain path bound = CanBind plain path → IsBoundPath names plain fused path bound
