-- What a fault of the parser is answered with.
use Rattle.std.specs.Prelude.{Option, Some, None}
use Rattle.lorel_terms.specs.Types.refusals
use Rattle.lorel_terms.specs.Types.{Refusal}
use Rattle.lorel_terms.specs.declared.faults.ParseFault.{ParseFault}
use Rattle.lorel_terms.specs.declared.faults.ParseFault.TheVariants.{Syntax, NoMemory}

-- the refusal of the same name; none for want of memory
abbrev pub refusal_of : ParseFault → Option Refusal
refusal_of Syntax = Some refusals.Syntax
refusal_of NoMemory = None
