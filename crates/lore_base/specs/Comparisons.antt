-- How values compare: a whole number and a text as numbers, where the text reads as one, and a flag and a text as
-- flags (Abiteboul et al. 1997, coercion).
use Rattle.std.specs.Prelude.{◌≡◌, ℕ, ◌⊎◌, ◌≢◌, Bool, true, false, List, ◌∷◌, ℤ, pos, neg_ℤ, FitsSigned, codes}
use Rattle.std.specs.Int.{w64}
use Rattle.std.specs.Str.Parse.{IsNumeral, digits_value}
use Rattle.std.specs.Fmt.{signed_decimal}
use Rattle.std.specs.Ordering.{int_cmp, bool_cmp}
use Rattle.std.specs.declared.cmp.Ordering.{Ordering}
use Rattle.std.specs.declared.cmp.Ordering.TheVariants as o
use Rattle.lore_base.specs.Types.{Value, Whole, Chars, Flag, Complex, Op, Eq, Ne, Lt, Le, Gt, Ge, Like}
use Rattle.lore_lists.specs.Bytes.{bytes_cmp}
use Rattle.lore_base.specs.Wildcards.{IsLike}

-- one decimal digit or more, perhaps behind a minus, and the whole number that they write
abbrev pub IsNumber : List ℕ → ℤ → Type 0
IsNumber text number = (digits : List ℕ) × IsNumeral 10 digits ×
    (((text ≡ digits) × (number ≡ pos (digits_value 10 digits)))
    ⊎ ((text ≡ 45 ∷ digits) × (number ≡ neg_ℤ (pos (digits_value 10 digits)))))

-- a text reads as a number of 64 bits with a sign
abbrev pub ReadsAs : List ℕ → ℤ → Type 0
ReadsAs text number = IsNumber text number × FitsSigned w64 number

-- the text of a flag, and no other, reads as that flag
abbrev pub flag_text : Bool → List ℕ
flag_text true = codes "true"
flag_text false = codes "false"

abbrev pub ReadsAsFlag : List ℕ → Bool → Type 0
ReadsAsFlag text flag = text ≡ flag_text flag

-- two values can be compared, and then compare so: numbers as numbers, texts by their bytes, false before true
abbrev pub CompareAs : Value → Value → Ordering → Type 0
CompareAs (Whole a) (Whole b) order = order ≡ int_cmp a b
CompareAs (Chars a) (Chars b) order = order ≡ bytes_cmp a b
CompareAs (Whole a) (Chars b) order = (number : ℤ) × ReadsAs b number × (order ≡ int_cmp a number)
CompareAs (Chars a) (Whole b) order = (number : ℤ) × ReadsAs a number × (order ≡ int_cmp number b)
CompareAs (Flag a) (Flag b) order = order ≡ bool_cmp a b
CompareAs (Flag a) (Chars b) order = (flag : Bool) × ReadsAsFlag b flag × (order ≡ bool_cmp a flag)
CompareAs (Chars a) (Flag b) order = (flag : Bool) × ReadsAsFlag a flag × (order ≡ bool_cmp flag b)
CompareAs _ _ order = ⊥

-- the operator holds of values that compare so. `like` asks for no order
abbrev pub Admits : Op → Ordering → Type 0
Admits Eq order = order ≡ o.Equal
Admits Ne order = order ≢ o.Equal
Admits Lt order = order ≡ o.Less
Admits Le order = order ≢ o.Greater
Admits Gt order = order ≡ o.Greater
Admits Ge order = order ≢ o.Less
Admits Like order = ⊥

-- the text of an atom: of a number its decimal text
abbrev pub IsTextOf : List ℕ → Value → Type 0
IsTextOf text (Whole number) = text ≡ signed_decimal number
IsTextOf text (Chars chars) = text ≡ chars
IsTextOf text (Flag flag) = text ≡ flag_text flag
IsTextOf text Complex = ⊥

-- one text is like the other, where both values are atoms
abbrev pub AreAlike : Value → Value → Type 0
AreAlike a b = (text : List ℕ) × (pattern : List ℕ) × IsTextOf text a × IsTextOf pattern b × IsLike pattern text

-- a comparison holds. Where the values can't be compared it is false, under `!=` too
abbrev pub Compares : Value → Op → Value → Type 0
Compares a op b = ((order : Ordering) × CompareAs a b order × Admits op order) ⊎ ((op ≡ Like) × AreAlike a b)
