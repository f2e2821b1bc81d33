-- The number or the flag that a text reads as, worked out.
use Rattle.std.specs.Prelude.{ℕ, ◌^◌, Bool, true, false, cond, ◌&&◌, ◌==◌, nat_lt, List, [], ◌∷◌, length, Option, Some, None}
use Rattle.std.specs.Prelude.{ℤ, pos, negsuc, neg_ℤ, bytes_eq}
use Rattle.std.specs.Char.{digit_value}
use Rattle.std.specs.Str.Parse.{digits_value}
use Rattle.lore_base.specs.Comparisons.{flag_text}

-- each byte is a decimal digit
abbrev pub are_digits : List ℕ → Bool
are_digits [] = true
are_digits (digit ∷ digits) = nat_lt (digit_value digit) 10 && are_digits digits

-- 64 bits hold the number and its sign
abbrev pub is_short : ℤ → Bool
is_short (pos n) = nat_lt n (2 ^ 63)
is_short (negsuc n) = nat_lt n (2 ^ 63)

-- the number that these digits write, by its sign; none where they are no digits, or it is too long
abbrev pub written : (ℕ → ℤ) → List ℕ → Option ℤ
written sign digits =
    cond (nat_lt 0 (length digits) && (are_digits digits && is_short (sign (digits_value 10 digits))))
    (Some (sign (digits_value 10 digits))) None

abbrev pub minus : ℕ → ℤ
minus n = neg_ℤ (pos n)

abbrev pub plus : ℕ → ℤ
plus n = pos n

-- the number that a text reads as
abbrev pub reading : List ℕ → Option ℤ
reading [] = None
reading (first ∷ rest) = cond (first == 45) (written minus rest) (written plus (first ∷ rest))

-- the flag that a text reads as
abbrev pub flag_reading : List ℕ → Option Bool
flag_reading text =
    cond (bytes_eq text (flag_text true)) (Some true) (cond (bytes_eq text (flag_text false)) (Some false) None)
