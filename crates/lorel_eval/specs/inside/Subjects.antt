-- What a condition is tested on: the objects of a row's slots, over a database.
use Rattle.std.specs.Prelude.{List, Option, Some, slice_get, Contains}
use Rattle.lore_base.specs.Comparisons.{Compares}
use Rattle.lorel_bound.specs.Conditions.{OperandOf, CondOf, CondsOf}
use Rattle.lorel_bound.specs.Holding.{Gives, Holds, SomeHolds, AllHold}
use Rattle.lorel_bound.specs.SlotRows.{MeetsBy}
use Rattle.lorel_eval.specs.Types.{Oid, Edge, Value, BoundStart}
use Rattle.lorel_eval.specs.Types.bound_starts
use Rattle.lorel_eval.specs.inside.Labelled.{LabelledPath}

-- the objects of slots, over edges and objects with their values
pub record SlotsOver : Type 0 where
  pub edges : List Edge
  pub objects : List (Oid × Value)
  pub slots : List Oid

-- the object of a start, where the slots and the quantifiers around it have these objects
abbrev pub start_of : List Oid → List Oid → BoundStart → Option Oid
start_of slots objects (bound_starts.Named own) = Some own
start_of slots objects (bound_starts.Slot slot) = slice_get slots slot
start_of slots objects (bound_starts.Quantified depth) = slice_get objects depth

-- a path of the condition reaches this object, where the quantifiers around it have these objects
abbrev pub ReachedIn : SlotsOver → List Oid → LabelledPath → Oid → Type 0
ReachedIn over objects path = MeetsBy path.labels over.edges over.slots objects (record { start = path.start; rest = path.rest })

abbrev pub HasValueIn : SlotsOver → Oid → Value → Type 0
HasValueIn over oid value = Contains over.objects (oid, value)

-- an operand gives a value
abbrev pub GivesIn : SlotsOver → List Oid → OperandOf LabelledPath → Value → Type 0
GivesIn over = Gives (ReachedIn over) (HasValueIn over) Compares

-- a condition, one of some conditions, and all of them hold
abbrev pub HoldsIn : SlotsOver → List Oid → CondOf LabelledPath → Type 0
HoldsIn over = Holds (ReachedIn over) (HasValueIn over) Compares

abbrev pub SomeHoldsIn : SlotsOver → List Oid → CondsOf LabelledPath → Type 0
SomeHoldsIn over = SomeHolds (ReachedIn over) (HasValueIn over) Compares

abbrev pub AllHoldIn : SlotsOver → List Oid → CondsOf LabelledPath → Type 0
AllHoldIn over = AllHold (ReachedIn over) (HasValueIn over) Compares
