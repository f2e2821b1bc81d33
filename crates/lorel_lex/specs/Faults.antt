-- The refusal that a lexical fault is answered with.
use Rattle.std.specs.Prelude.{Option, Some, None}
use Rattle.lorel_lex.specs.Types.refusals
use Rattle.lorel_lex.specs.Types.{Refusal, LexFault, BadToken, RealRefused, NumberRange, TextTooLong}
use Rattle.lorel_lex.specs.Types.{NoMemory}

-- the refusal of the same name; none for want of memory
abbrev pub refusal_of : LexFault → Option Refusal
refusal_of BadToken = Some refusals.BadToken
refusal_of RealRefused = Some refusals.RealRefused
refusal_of NumberRange = Some refusals.NumberRange
refusal_of TextTooLong = Some refusals.TextTooLong
refusal_of NoMemory = None
