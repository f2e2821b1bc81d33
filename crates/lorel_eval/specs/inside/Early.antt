-- What known slots tell of a condition before the others are filled.
use Rattle.std.specs.Prelude.{◌≡◌, Bool, true, List, [], Some, All, Contains, slice_get}
use Rattle.index_traits.specs.PartRows.{AgreeOn}
use Rattle.lorel_bound.specs.Conditions.{CondOf, paths_of}
use Rattle.lorel_eval.specs.Types.{Oid, BoundStart}
use Rattle.lorel_eval.specs.Types.bound_starts
use Rattle.lorel_eval.specs.declared.ready_conds.ReadyCond.{ReadyCond}
use Rattle.lorel_eval.specs.inside.Labelled.{LabelledPath}
use Rattle.lorel_eval.specs.inside.Ready.{ready_tree}
use Rattle.lorel_eval.specs.inside.Subjects.{SlotsOver, HoldsIn}

-- a start is no slot, or a known one
abbrev pub IsKnown : List Bool → BoundStart → Type 0
IsKnown known (bound_starts.Named own) = Unit {0}
IsKnown known (bound_starts.Slot slot) = slice_get known slot ≡ Some true
IsKnown known (bound_starts.Quantified depth) = Unit {0}

abbrev pub StartsKnown : List Bool → LabelledPath → Type 0
StartsKnown known path = IsKnown known path.start

-- a condition reads known slots alone
abbrev pub ReadsKnown : List Bool → CondOf LabelledPath → Type 0
ReadsKnown known condition = All (StartsKnown known) (paths_of condition)

-- the same database, with other objects in the slots
abbrev pub with_slots : SlotsOver → List Oid → SlotsOver
with_slots over slots =
    record { edges = over.edges; objects = over.objects; slots = slots }

-- the condition holds of no slots that have the same objects where they are known
abbrev pub FailsByKnown : SlotsOver → List Bool → CondOf LabelledPath → Type 0
FailsByKnown over known condition =
    (slots : List Oid) → AgreeOn known over.slots slots → HoldsIn (with_slots over slots) [] condition → ⊥

-- and so for some of these
abbrev pub SomeFailsByKnown : SlotsOver → List Bool → List ReadyCond → Type 0
SomeFailsByKnown over known members =
    (member : ReadyCond) × Contains members member × FailsByKnown over known (ready_tree member)
