-- What the faults of a dump text are answered with.
use Rattle.std.specs.Prelude.{Option, Some, None}
use Rattle.dump_text.specs.Types.refusals
use Rattle.dump_text.specs.Types.{Refusal}
use Rattle.dump_text.specs.declared.faults.DumpFault.{DumpFault}
use Rattle.dump_text.specs.declared.faults.DumpFault.TheVariants as dump

-- the refusal of a bad text; none for want of memory
abbrev pub dump_refusal : DumpFault → Option Refusal
dump_refusal dump.Bad = Some refusals.BadRestore
dump_refusal dump.NoMemory = None
