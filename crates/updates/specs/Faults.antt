-- What a fault of an update is answered with.
use Rattle.std.specs.Prelude.{Option, Some, None}
use Rattle.updates.specs.Types.refusals
use Rattle.updates.specs.Types.{Refusal}
use Rattle.updates.specs.declared.faults.UpdateFault.{UpdateFault}
use Rattle.updates.specs.declared.faults.UpdateFault.TheVariants as fault

-- the refusal of the same name; none for want of memory
abbrev pub refusal_of : UpdateFault → Option Refusal
refusal_of fault.DuplicateLocal = Some refusals.DuplicateLocal
refusal_of fault.UndefinedLocal = Some refusals.UndefinedLocal
refusal_of fault.AtomicParent = Some refusals.AtomicParent
refusal_of fault.HasChildren = Some refusals.HasChildren
refusal_of fault.OidsSpent = Some refusals.OidsSpent
refusal_of fault.TooManyLabels = Some refusals.TooManyLabels
refusal_of fault.TooManyObjects = Some refusals.TooManyObjects
refusal_of fault.TooManyEdges = Some refusals.TooManyEdges
refusal_of fault.NoMemory = None
