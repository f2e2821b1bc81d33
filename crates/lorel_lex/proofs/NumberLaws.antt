-- The number or the local at the front.
use Rattle.std.proofs.Common.{◌≡◌, ℕ, ◌+◌, ◌-◌, ◌*◌, ◌<◌, ◌≤◌, true, false, Bool, List, [], ◌∷◌, ◌++◌, length, get_or, take, drop, to_z, of_z, refl, sym, ap, ◌∙◌, subst, inl, inr, arith, add-one, leb}
use Rattle.std.specs.Prelude.{ℤ, pos, neg_ℤ, FitsSigned}
use Rattle.std.specs.List.{list_all}
use Rattle.std.specs.Int.{IsInRange, w64}
use Rattle.std.proofs.lemmas.Int.{to_z-of_z}
use Rattle.std.specs.Char.{digit_value, is_ascii_digit}
use Rattle.std.specs.Str.Parse.{AllDigits, IsNumeral, digits_value}
use Rattle.std.proofs.lemmas.Str.{digit_value_digit}
use Rattle.std.proofs.lemmas.Str.Parse.{digit_from_value, digits_value-take-le}
use Rattle.std.proofs.lemmas.Int.Digits.{digits_value_more}
use Rattle.std.proofs.lemmas.Bool.{and_parts, and_from, leb-true, le-leb}
use Rattle.std.proofs.lemmas.List.{length-take-le, take_rest}
use Rattle.lorel_lex.specs.Types.{Kind, Number, Local, Digit, Minus, Ampersand, Other}
use Rattle.lorel_tokens.specs.Shapes.{IsNumber, begins, IsToken}
use Rattle.lorel_lex.specs.Tokens.{begins_fraction, BeginsNone}
use Rattle.lorel_lex.specs.inside.Lexing.{class_of, EndsRun, BeginsSymbol, IsShape}
use Rattle.lorel_lex.proofs.RunLaws.{run_most, run_some}
use Rattle.lorel_lex.proofs.SymbolLaws.{sign_short}
use Rattle.lorel_lex.proofs.ClassLaws.{admitted, class_says, digit_kind, minus_kind, local_kind}
use Rattle.lorel_lex.proofs.FaultLaws.{shape}

digit_range : (byte : ℕ) → is_ascii_digit byte ≡ true → IsInRange 48 57 byte
digit_range byte e =
    let both = and_parts (leb 48 byte) (leb byte 57) e in
    (leb-true 48 byte both.0, leb-true byte 57 both.1)

pub AllDigits-from_run : (bytes : List ℕ) → list_all is_ascii_digit bytes ≡ true → AllDigits 10 bytes
AllDigits-from_run [] e = tt
AllDigits-from_run (byte ∷ bytes) e =
    let both = and_parts (is_ascii_digit byte) (list_all is_ascii_digit bytes) e in
    let range = digit_range byte both.0 in
    let value = digit_value_digit byte range in
    (omega arith, AllDigits-from_run bytes both.1)

pub digit_passes : (byte : ℕ) → digit_value byte < 10 → is_ascii_digit byte ≡ true
digit_passes byte d =
    let range = digit_from_value byte d in
    and_from (leb 48 byte) (leb byte 57) (le-leb 48 byte (omega arith)) (le-leb byte 57 (omega arith))

pub run_from_AllDigits : (bytes : List ℕ) → AllDigits 10 bytes → list_all is_ascii_digit bytes ≡ true
run_from_AllDigits [] d = refl
run_from_AllDigits (byte ∷ bytes) d = and_from (is_ascii_digit byte) (list_all is_ascii_digit bytes) (digit_passes byte d.0) (run_from_AllDigits bytes d.1)

numeral : (bytes : List ℕ) (len : ℕ) → EndsRun is_ascii_digit bytes len → 0 < len → IsNumeral 10 (take len bytes)
numeral bytes len run some = let size : length (take len bytes) ≡ len = length-take-le len bytes run.within in (omega arith, AllDigits-from_run (take len bytes) run.passed)

-- digits at the front are no more than the run
digits_most : (bytes digits back : List ℕ) (len : ℕ) → EndsRun is_ascii_digit bytes len → bytes ≡ digits ++ back → IsNumeral 10 digits → length digits ≤ len
digits_most bytes digits back len run e n = run_most is_ascii_digit bytes digits back len run e (run_from_AllDigits digits n.1)

-- a digit is no minus
pub digit_first : (bytes : List ℕ) → class_of (get_or bytes 0 0) ≡ Digit → (0 < length bytes) × (is_ascii_digit (get_or bytes 0 0) ≡ true)
digit_first [] e = absurd (let other : class_of 0 ≡ Other = refl in let same : Digit ≡ Other = sym e ∙ other in cc)
digit_first (byte ∷ bytes) e = (omega arith, class_says byte Digit e)

pub no_minus : (byte : ℕ) → is_ascii_digit byte ≡ true → byte ≡ 45 → ⊥
no_minus byte e is = let range = digit_range byte e in omega arith

unsigned_most : (bytes front back : List ℕ) (number : ℤ) (len : ℕ) → EndsRun is_ascii_digit bytes len → (get_or bytes 0 0 ≡ 45 → ⊥) → bytes ≡ front ++ back → IsNumber front number
    → length front ≤ len
unsigned_most bytes front back number len run plain parts (digits, n, inl (e, v)) =
    let most = digits_most bytes digits back len run (parts ∙ ap (λ (l : List ℕ). l ++ back) e) n in omega (arith, ap length e)
unsigned_most bytes front back number len run plain parts (digits, n, inr (e, v)) =
    absurd (plain (ap (λ (l : List ℕ). get_or l 0 0) (parts ∙ ap (λ (l : List ℕ). l ++ back) e)))

-- digits with no minus before them
pub unsigned_shape : (bytes : List ℕ) (number : ℤ) (len : ℕ) → EndsRun is_ascii_digit bytes len → class_of (get_or bytes 0 0) ≡ Digit
    → number ≡ pos (digits_value 10 (take len bytes)) → IsShape bytes (Number number) len
unsigned_shape bytes number len run class value =
    let (some, digit) = digit_first bytes class in
    let more = run_some is_ascii_digit bytes len run some digit in
    shape bytes (Number number) len run.within (take len bytes, numeral bytes len run more, inl (refl, value)) (λ front back kind parts s.
    let (number', n, is) = digit_kind front back kind s (admitted bytes front back kind Digit class parts s) in
    unsigned_most bytes front back number' len run (no_minus (get_or bytes 0 0) digit) parts n)

-- a number behind a minus
signed_front : (bytes rest front back : List ℕ) (number : ℤ) → bytes ≡ 45 ∷ rest → bytes ≡ front ++ back → IsNumber front number
    → (digits : List ℕ) × IsNumeral 10 digits × (front ≡ 45 ∷ digits) × (rest ≡ digits ++ back)
signed_front bytes rest front back number e parts ([], n, inl (f, v)) = absurd (omega (arith, n.0))
signed_front bytes rest front back number e parts (digit ∷ digits, n, inl (f, v)) = absurd (
    let both : 45 ∷ rest ≡ (digit ∷ digits) ++ back = sym e ∙ parts ∙ ap (λ (l : List ℕ). l ++ back) f in
    let minus : digit ≡ 45 = cc in
    no_minus digit (digit_passes digit n.1.0) minus)
signed_front bytes rest front back number e parts (digits, n, inr (f, v)) =
    let both : 45 ∷ rest ≡ (45 ∷ digits) ++ back = sym e ∙ parts ∙ ap (λ (l : List ℕ). l ++ back) f in
    (digits, n, f, (cc))

minus_class : (bytes rest : List ℕ) → bytes ≡ 45 ∷ rest → class_of (get_or bytes 0 0) ≡ Minus
minus_class bytes rest e = ap (λ (l : List ℕ). class_of (get_or l 0 0)) e

-- digits behind a minus
pub signed_shape : (bytes rest digits : List ℕ) (number : ℤ) (len : ℕ) → bytes ≡ 45 ∷ rest → EndsRun is_ascii_digit rest len → 0 < len → digits ≡ take len rest
    → number ≡ neg_ℤ (pos (digits_value 10 digits)) → IsShape bytes (Number number) (len + 1)
signed_shape bytes rest digits number len minus run some same value =
    let within : len + 1 ≤ length bytes = omega (arith, ap length minus, run.within) in
    let text : take (len + 1) bytes ≡ 45 ∷ digits = ap (take (len + 1)) minus ∙ ap (λ (n : ℕ). take n (45 ∷ rest)) (add-one len) ∙ ap (λ (l : List ℕ). 45 ∷ l) (sym same) in
    shape bytes (Number number) (len + 1) within (digits, subst (IsNumeral 10) (sym same) (numeral rest len run some), inr (text, value)) (λ front back kind parts s.
    elim (minus_kind front back kind s (admitted bytes front back kind Minus (minus_class bytes rest minus) parts s)) [
      | inl (number', n, is) ↦
          let (others, m, f, rests) = signed_front bytes rest front back number' minus parts n in
          let most = digits_most rest others back len run rests m in
          omega (arith, ap length f)
      | inr (sign, is, _) ↦ omega (arith, ap length is, sign_short sign)
    ])

-- a minus with no digit behind it begins no number
no_number : (bytes rest front back : List ℕ) (number : ℤ) → bytes ≡ 45 ∷ rest → begins is_ascii_digit rest ≡ false → bytes ≡ front ++ back → IsNumber front number → ⊥
no_number bytes rest front back number minus plain parts n = head (signed_front bytes rest front back number minus parts n) where
  head : (digits : List ℕ) × IsNumeral 10 digits × (front ≡ 45 ∷ digits) × (rest ≡ digits ++ back) → ⊥
  head ([], m, f, rests) = omega (arith, m.0)
  head (digit ∷ digits, m, f, rests) =
      let passes : begins is_ascii_digit rest ≡ true = ap (begins is_ascii_digit) rests ∙ digit_passes digit m.1.0 in cc

-- a known byte at the front, and the rest
pub rest_is : (byte : ℕ) (bytes : List ℕ) → 0 < length bytes → get_or bytes 0 0 ≡ byte → bytes ≡ byte ∷ drop 1 bytes
rest_is byte [] some e = absurd (omega arith)
rest_is byte (first ∷ bytes) some e = ap (λ (b : ℕ). b ∷ bytes) e

pub minus_symbol : (bytes : List ℕ) → 0 < length bytes → get_or bytes 0 0 ≡ 45 → begins is_ascii_digit (drop 1 bytes) ≡ false → BeginsSymbol bytes
minus_symbol bytes some e plain front back kind parts s =
    let minus = rest_is 45 bytes some e in
    elim (minus_kind front back kind s (admitted bytes front back kind Minus (minus_class bytes (drop 1 bytes) minus) parts s)) [
      | inl (number, n, is) ↦ absurd (no_number bytes (drop 1 bytes) front back number minus plain parts n)
      | inr (sign, f, is) ↦ (sign, is)
    ]

-- locals

local_class : (bytes rest : List ℕ) → bytes ≡ 38 ∷ rest → class_of (get_or bytes 0 0) ≡ Ampersand
local_class bytes rest e = ap (λ (l : List ℕ). class_of (get_or l 0 0)) e

local_front : (bytes rest front back : List ℕ) (kind : Kind) → bytes ≡ 38 ∷ rest → bytes ≡ front ++ back → IsToken front back kind
    → (digits : List ℕ) × IsNumeral 10 digits × (front ≡ 38 ∷ digits) × (rest ≡ digits ++ back)
local_front bytes rest front back kind e parts s =
    let (local, (digits, n, f, v), is) = local_kind front back kind s (admitted bytes front back kind Ampersand (local_class bytes rest e) parts s) in
    let both : 38 ∷ rest ≡ (38 ∷ digits) ++ back = sym e ∙ parts ∙ ap (λ (l : List ℕ). l ++ back) f in
    (digits, n, f, (cc))

pub local_shape : (bytes rest digits : List ℕ) (local len : ℕ) → bytes ≡ 38 ∷ rest → EndsRun is_ascii_digit rest len → 0 < len → digits ≡ take len rest
    → local ≡ digits_value 10 digits → IsShape bytes (Local local) (len + 1)
local_shape bytes rest digits local len e run some same value =
    let within : len + 1 ≤ length bytes = omega (arith, ap length e, run.within) in
    let text : take (len + 1) bytes ≡ 38 ∷ digits = ap (take (len + 1)) e ∙ ap (λ (n : ℕ). take n (38 ∷ rest)) (add-one len) ∙ ap (λ (l : List ℕ). 38 ∷ l) (sym same) in
    shape bytes (Local local) (len + 1) within (digits, subst (IsNumeral 10) (sym same) (numeral rest len run some), text, value) (λ front back kind parts s.
    let (others, m, f, rests) = local_front bytes rest front back kind e parts s in
    let most = digits_most rest others back len run rests m in
    omega (arith, ap length f))

-- a `&` with no digit behind it begins no token
pub no_local : (bytes rest : List ℕ) (len : ℕ) → bytes ≡ 38 ∷ rest → EndsRun is_ascii_digit rest len → len ≡ 0 → BeginsNone bytes
no_local bytes rest len e run none front back kind parts s =
    let (others, m, f, rests) = local_front bytes rest front back kind e parts s in
    let most = digits_most rest others back len run rests m in
    omega (arith, m.0)

-- one digit more
pub digits_value-step : (digits : List ℕ) (i value : ℕ) → i < length digits → value ≡ digits_value 10 (take i digits) → value * 10 + digit_value (get_or digits i 0) ≤ digits_value 10 digits
digits_value-step digits i value l e =
    let more = digits_value_more 10 digits i l in
    let most = digits_value-take-le 10 digits (i + 1) (omega arith) in
    omega arith

-- what the code cuts out and hands on

pub read_back : (number value : ℤ) → FitsSigned w64 value → number ≡ value → (to_z w64 (of_z w64 number) ≡ value) × FitsSigned w64 (to_z w64 (of_z w64 number))
read_back number value fits e =
    let fits' : FitsSigned w64 number = subst (FitsSigned w64) (sym e) fits in
    let back : to_z w64 (of_z w64 number) ≡ number = to_z-of_z w64 number fits' in
    (back ∙ e, subst (FitsSigned w64) (sym back) fits')

pub behind : (byte : ℕ) (bytes : List ℕ) → 0 < length bytes → get_or bytes 0 0 ≡ byte → bytes ≡ byte ∷ take (length bytes - 1) (drop 1 bytes)
behind byte bytes some e = rest_is byte bytes some e ∙ ap (λ (l : List ℕ). byte ∷ l) (sym (take_rest bytes 1))

pub between : (bytes : List ℕ) (len : ℕ) → take (len + 1 - 1) (drop 1 bytes) ≡ take len (take (length bytes - 1) (drop 1 bytes))
between bytes len = let count : len + 1 - 1 ≡ len = omega arith in ap (λ (n : ℕ). take n (drop 1 bytes)) count ∙ ap (take len) (sym (take_rest bytes 1))

pub fraction_is : (bytes : List ℕ) (len : ℕ) (found is : Bool) → found ≡ begins_fraction (take (length bytes - len) (drop len bytes)) → found ≡ is → begins_fraction (drop len bytes) ≡ is
fraction_is bytes len found is e f = ap begins_fraction (sym (take_rest bytes len)) ∙ sym e ∙ f

-- a digit behind the first byte
pub second_some : (byte : ℕ) (bytes rest : List ℕ) (len : ℕ) → bytes ≡ byte ∷ rest → begins is_ascii_digit (drop 1 bytes) ≡ true → EndsRun is_ascii_digit rest len → 0 < len
second_some byte bytes rest len e digit run = first rest (ap (λ (l : List ℕ). begins is_ascii_digit (drop 1 l)) (sym e) ∙ digit) run where
  first : (l : List ℕ) → begins is_ascii_digit l ≡ true → EndsRun is_ascii_digit l len → 0 < len
  first [] f r = absurd (cc)
  first (b ∷ l) f r = run_some is_ascii_digit (b ∷ l) len r (omega arith) f

pub byte_behind : (byte : ℕ) (bytes : List ℕ) → 0 < byte → get_or bytes 0 0 ≡ byte → bytes ≡ byte ∷ take (length bytes - 1) (drop 1 bytes)
byte_behind byte [] some e = absurd (omega arith)
byte_behind byte (first ∷ bytes) some e = behind byte (first ∷ bytes) (omega arith) e
