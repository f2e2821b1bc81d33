-- What a fault of binding is answered with.
use Rattle.std.specs.Prelude.{Option, Some, None}
use Rattle.lorel_bind.specs.Types.refusals
use Rattle.lorel_bind.specs.Types.{Refusal}
use Rattle.lorel_bind.specs.declared.faults.BindFault.{BindFault}
use Rattle.lorel_bind.specs.declared.faults.BindFault.TheVariants.{UnknownName, UnknownVariable, DuplicateVariable, TooManyRanges, NoMemory}

-- the refusal of the same name; none for want of memory
abbrev pub refusal_of : BindFault → Option Refusal
refusal_of UnknownName = Some refusals.UnknownName
refusal_of UnknownVariable = Some refusals.UnknownVariable
refusal_of DuplicateVariable = Some refusals.DuplicateVariable
refusal_of TooManyRanges = Some refusals.TooManyRanges
refusal_of NoMemory = None
