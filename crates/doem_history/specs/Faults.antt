-- What a fault of a history is answered with.
use Rattle.std.specs.Prelude.{Option, Some, None}
use Rattle.doem_history.specs.Types.refusals
use Rattle.doem_history.specs.Types.{Refusal}
use Rattle.doem_history.specs.declared.faults.HistoryFault.{HistoryFault}
use Rattle.doem_history.specs.declared.faults.HistoryFault.TheVariants as fault

-- the refusal that says the history is full; none for want of memory
abbrev pub refusal_of : HistoryFault → Option Refusal
refusal_of fault.Full = Some refusals.HistoryFull
refusal_of fault.NoMemory = None
