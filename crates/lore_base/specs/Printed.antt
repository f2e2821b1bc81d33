-- How values, labels and objects are printed.
use Rattle.std.specs.Prelude.{ℕ, ◌==◌, List, ◌++◌, if◌then◌else◌, codes, decimal, unwrap_or}
use Rattle.std.specs.Map.{lookup}
use Rattle.std.specs.Fmt.{signed_decimal}
use Rattle.lore_base.specs.Names.{is_identifier}
use Rattle.lore_base.specs.Types.{Oid, Value, Whole, Chars, Flag, Complex}
use Rattle.lore_base.specs.Quotes.{in_quotes}
use Rattle.lore_base.specs.Comparisons.{flag_text}

-- a value: decimal digits, a text in quotes, `true` or `false`, or empty braces for any complex object
abbrev pub printed : Value → List ℕ
printed (Whole number) = signed_decimal number
printed (Chars text) = in_quotes 34 text
printed (Flag flag) = flag_text flag
printed Complex = codes "{}"

-- a label: bare where it is an identifier, a reserved word too, and else in single quotes with escapes
abbrev pub label_text : List ℕ → List ℕ
label_text label = if is_identifier label then label else in_quotes 39 label

-- the value of an object, which is live where it is shown
abbrev pub value_of : List (Oid × Value) → Oid → Value
value_of objects oid = unwrap_or (lookup (λ other. other.0 == oid.0) objects) Complex

-- an object: `&`, its number, a space and its value
abbrev pub object_text : List (Oid × Value) → Oid → List ℕ
object_text objects oid = codes "&" ++ decimal oid.0 ++ codes " " ++ printed (value_of objects oid)
