-- Kinds of values: each order holds the entries of one kind, and compares their values by what that kind compares.
use Rattle.std.specs.Prelude.{ℕ, ℤ, Bool, true, false, ◌&&◌, List, Option, Some, None, is_some}
use Rattle.std.specs.Option.{option_cmp}
use Rattle.std.specs.Ordering.{int_cmp, bool_cmp}
use Rattle.std.specs.declared.cmp.Ordering.{Ordering}
use Rattle.lore_base.specs.Bytes.{bytes_cmp}
use Rattle.value_orders.specs.Types.{Value, Whole, Chars, Flag, Complex, Kind, Wholes, Texts, Flags, Readings, FlagReadings}
use Rattle.value_orders.specs.TextReadings.{reading, flag_reading}

-- what a value is
abbrev pub is_whole : Value → Bool
is_whole (Whole number) = true
is_whole (Chars text) = false
is_whole (Flag flag) = false
is_whole Complex = false

abbrev pub is_text : Value → Bool
is_text (Whole number) = false
is_text (Chars text) = true
is_text (Flag flag) = false
is_text Complex = false

abbrev pub is_flag : Value → Bool
is_flag (Whole number) = false
is_flag (Chars text) = false
is_flag (Flag flag) = true
is_flag Complex = false

-- the number that it is or reads as, the text that it is, and the flag that it is or reads as
abbrev pub number_in : Value → Option ℤ
number_in (Whole number) = Some number
number_in (Chars text) = reading text
number_in (Flag flag) = None
number_in Complex = None

abbrev pub text_in : Value → Option (List ℕ)
text_in (Whole number) = None
text_in (Chars text) = Some text
text_in (Flag flag) = None
text_in Complex = None

abbrev pub flag_in : Value → Option Bool
flag_in (Whole number) = None
flag_in (Chars text) = flag_reading text
flag_in (Flag flag) = Some flag
flag_in Complex = None

-- values of a kind: whole numbers, texts, flags, and texts that read as a number or as a flag
abbrev pub is_of : Kind → Value → Bool
is_of Wholes value = is_whole value
is_of Texts value = is_text value
is_of Flags value = is_flag value
is_of Readings value = is_text value && is_some (number_in value)
is_of FlagReadings value = is_text value && is_some (flag_in value)

-- values that those of a kind are compared with
abbrev pub is_sought : Kind → Value → Bool
is_sought Wholes value = is_some (number_in value)
is_sought Texts value = is_text value
is_sought Flags value = is_some (flag_in value)
is_sought Readings value = is_whole value
is_sought FlagReadings value = is_flag value

-- numbers, texts and flags in their orders, what has none first
abbrev pub number_cmp : Value → Value → Ordering
number_cmp a b = option_cmp int_cmp (number_in a) (number_in b)

abbrev pub text_cmp : Value → Value → Ordering
text_cmp a b = option_cmp bytes_cmp (text_in a) (text_in b)

abbrev pub flag_cmp : Value → Value → Ordering
flag_cmp a b = option_cmp bool_cmp (flag_in a) (flag_in b)

-- the order of a kind's values
abbrev pub value_cmp : Kind → Value → Value → Ordering
value_cmp Wholes = number_cmp
value_cmp Texts = text_cmp
value_cmp Flags = flag_cmp
value_cmp Readings = number_cmp
value_cmp FlagReadings = flag_cmp

-- the kind of what a value is; a complex value, which has no entry, counts among the texts
abbrev pub own_kind : Value → Kind
own_kind (Whole number) = Wholes
own_kind (Chars text) = Texts
own_kind (Flag flag) = Flags
own_kind Complex = Texts
