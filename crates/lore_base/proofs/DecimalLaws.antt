-- Texts that read as numbers.
use Rattle.std.proofs.Common.{ℕ, zero, suc, inl, inr, List, [], ◌∷◌, arith}
use Rattle.std.specs.Prelude.{ℤ}
use Rattle.std.specs.Str.{IsAscii, IsUtf8}
use Rattle.std.proofs.lemmas.Fmt.{IsAscii-from_digits}
use Rattle.std.proofs.lemmas.Str.{IsAscii-append, IsUtf8-from_ascii}
use Rattle.lore_base.specs.Comparisons.{IsNumber}

minus_ascii : IsAscii (45 ∷ [])
minus_ascii zero = omega arith
minus_ascii (suc i) = omega arith

pub IsNumber-utf8 : (text : List ℕ) (number : ℤ) → IsNumber text number → IsUtf8 text
IsNumber-utf8 text number (digits, n, inl (e, v)) = rw e (IsUtf8-from_ascii digits (IsAscii-from_digits digits n.1))
IsNumber-utf8 text number (digits, n, inr (e, v)) =
    rw e (IsUtf8-from_ascii (45 ∷ digits) (IsAscii-append (45 ∷ []) digits minus_ascii (IsAscii-from_digits digits n.1)))
