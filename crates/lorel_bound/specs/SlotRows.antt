-- The rows of a bound select: its slots hold the objects of its ranges, and its cells show some of them.
use Rattle.std.specs.Prelude.{◌≡◌, ℕ, List, [], Option, Some, MatchOption, slice_get, All, Contains}
use Rattle.std.specs.List.{AllZip}
use Rattle.lorel_bound.specs.Types.{Oid, Label, Edge, Value, Start, BoundStart, Cell, CellOf}
use Rattle.lorel_bound.specs.Types.shown
use Rattle.lorel_bound.specs.Types.cells
use Rattle.lore_base.specs.LeastWords.{IsLeast, IsSpelledWalk}
use Rattle.lorel_bound.specs.Types.starts
use Rattle.lorel_bound.specs.Types.bound_starts
use Rattle.lore_base.specs.Databases.{Database}
use Rattle.lore_base.specs.Paths.{Reaches}
use Rattle.lore_base.specs.Comparisons.{Compares}
use Rattle.lorel_bound.specs.Conditions.{CondOf}
use Rattle.lorel_bound.specs.Holding.{Holds}
use Rattle.lorel_bound.specs.Bound.{RangeTree, BoundPathTree, BoundTree}

-- the object of a start, where the slots hold these objects
abbrev pub StartsAt : List Oid → Start → Oid → Type 0
StartsAt slots (starts.Named own) oid = own ≡ oid
StartsAt slots (starts.Slot slot) oid = slice_get slots slot ≡ Some oid

-- the object of a start in a condition, where the quantifiers around it have these objects, from the outermost on
abbrev pub BoundStartsAt : List Oid → List Oid → BoundStart → Oid → Type 0
BoundStartsAt slots objects (bound_starts.Named own) oid = own ≡ oid
BoundStartsAt slots objects (bound_starts.Slot slot) oid = slice_get slots slot ≡ Some oid
BoundStartsAt slots objects (bound_starts.Quantified depth) oid = slice_get objects depth ≡ Some oid

-- a path of the condition reaches an object from its start
abbrev pub MeetsBy : List (List ℕ) → List Edge → List Oid → List Oid → BoundPathTree → Oid → Type 0
MeetsBy labels edges slots objects path oid =
    (start : Oid) × BoundStartsAt slots objects path.start start × Reaches labels edges path.rest start oid

-- the condition holds of these slots, over label texts, edges and objects with their values; where there is none each
-- holds
abbrev pub HoldsOver : List (List ℕ) → List Edge → List (Oid × Value) → List Oid → Option (CondOf BoundPathTree) → Type 0
HoldsOver labels edges objects slots condition = MatchOption condition (Unit {0})
    (λ cond. Holds (MeetsBy labels edges slots) (λ oid value. Contains objects (oid, value)) Compares [] cond)

-- each slot holds an object that its range's path reaches from the object of its start
abbrev pub AreFilled : List (List ℕ) → List Edge → List RangeTree → List Oid → Type 0
AreFilled labels edges ranges slots = AllZip (λ range oid.
    (start : Oid) × StartsAt slots range.start start × Reaches labels edges range.path start oid) ranges slots

-- the least word by which the object in a slot is reached along the slot's range
pub record IsSlotWord (labels : List (List ℕ)) (edges : List Edge) (ranges : List RangeTree) (slots : List Oid) (slot : ℕ)
    (own : List Label) : Type 0 where
  pub range : RangeTree
  pub there : slice_get ranges slot ≡ Some range
  pub start : Oid
  pub begins : StartsAt slots range.start start
  pub oid : Oid
  pub ends : slice_get slots slot ≡ Some oid
  pub least : IsLeast (IsSpelledWalk labels edges range.path start oid) own

-- a cell shows the object of its start, or the word of its slot
abbrev pub ShowsSlot : List (List ℕ) → List Edge → List RangeTree → List Oid → CellOf → Cell → Type 0
ShowsSlot labels edges ranges slots (shown.Object start) (cells.Object oid) = StartsAt slots start oid
ShowsSlot labels edges ranges slots (shown.PathOf slot) (cells.Path own) = IsSlotWord labels edges ranges slots slot own
ShowsSlot labels edges ranges slots _ _ = ⊥

-- the row shows the cells of slots that are filled and that the condition holds of
pub record IsSlotRow (db : Database) (bound : BoundTree) (row : List Cell) : Type 0 where
  pub slots : List Oid
  pub filled : AreFilled db.labels db.graph.edges bound.ranges slots
  pub holds : HoldsOver db.labels db.graph.edges db.graph.objects slots bound.cond
  pub shown : AllZip (ShowsSlot db.labels db.graph.edges bound.ranges slots) bound.cells row

-- a cell shows an object, and no word
abbrev pub IsObjectCell : CellOf → Type 0
IsObjectCell (shown.Object start) = Unit {0}
IsObjectCell (shown.PathOf slot) = ⊥

-- no cell shows a word
abbrev pub ShowsObjects : BoundTree → Type 0
ShowsObjects bound = All IsObjectCell bound.cells
