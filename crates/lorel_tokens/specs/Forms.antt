-- The form that each token has.
use Rattle.std.specs.Prelude.{ℕ, ◌<◌, ◌≤◌, ◌^◌, length, FitsSigned}
use Rattle.std.specs.Int.{w64}
use Rattle.lore_base.specs.Names.{IsIdentifier}
use Rattle.lorel_tokens.specs.Types.{WORD_BYTES, TEXT_BYTES, Kind, Word, Wild, PathOf, Number, Local, Chars, Quoted, Symbol}
use Rattle.lorel_tokens.specs.Shapes.{IsPattern}

-- the form that a token has, within its limits
abbrev pub HasForm : Kind → Type 0
HasForm (Word word) = IsIdentifier word × (length word ≤ WORD_BYTES)
HasForm (Wild pattern) = IsPattern pattern × (length pattern ≤ WORD_BYTES)
HasForm PathOf = Unit {0}
HasForm (Number number) = FitsSigned w64 number
HasForm (Local local) = local < 2 ^ 32
HasForm (Chars contents) = length contents ≤ TEXT_BYTES
HasForm (Quoted label) = (1 ≤ length label) × (length label ≤ WORD_BYTES)
HasForm (Symbol sign) = Unit {0}
