-- A text reads as the number and as the flag that are worked out of it.
use Rattle.std.proofs.Common.{◌≡◌, ◌<◌, ◌==◌, ◌&&◌, inl, inr, ℕ, ℤ, Bool, true, false, cond, List, [], ◌∷◌, length, subst, refl, sym, ap, ◌∙◌, arith}
use Rattle.std.specs.Prelude.{◌^◌, pos, negsuc, neg_ℤ, FitsSigned, bytes_eq, nat_lt, Option, Some, None, IfSome, IfNone}
use Rattle.std.specs.Int.{w64}
use Rattle.std.specs.Bool.{Decides}
use Rattle.std.specs.Char.{digit_value}
use Rattle.std.specs.Str.Parse.{IsNumeral, AllDigits, digits_value}
use Rattle.std.specs.Cmp.Lexicographic.{same_text, nat_list_eq_equiv}
use Rattle.std.proofs.lemmas.Bool.Decides.{nat_tests, Decides-and, Decides-like, Decides-ltb}
use Rattle.lore_base.specs.Comparisons.{ReadsAs, ReadsAsFlag, flag_text}
use Rattle.value_orders.specs.TextReadings.{are_digits, is_short, written, minus, plus, reading, flag_reading}

digits_told : (digits : List ℕ) → Decides (are_digits digits) (AllDigits 10 digits)
digits_told [] = (λ _. tt, λ _. refl)
digits_told (digit ∷ digits) =
    Decides-and (nat_lt (digit_value digit) 10) (are_digits digits) (Decides-ltb (digit_value digit) 10) (digits_told digits)

short_told : (z : ℤ) → Decides (is_short z) (FitsSigned w64 z)
short_told (pos n) = Decides-like (nat_lt n (2 ^ 63)) (λ (lt : n < 2 ^ 63). record { sfits = lt }) (λ fits. fits.sfits) (Decides-ltb n (2 ^ 63))
short_told (negsuc n) = Decides-like (nat_lt n (2 ^ 63)) (λ (lt : n < 2 ^ 63). record { sfits = lt }) (λ fits. fits.sfits) (Decides-ltb n (2 ^ 63))

module _ (sign : ℕ → ℤ) (digits : List ℕ) where
  abbrev value : ℤ
  value = sign (digits_value 10 digits)

  abbrev is_written : Bool
  is_written = nat_lt 0 (length digits) && (are_digits digits && is_short value)

  written_told : Decides is_written ((0 < length digits) × (AllDigits 10 digits × FitsSigned w64 value))
  written_told =
      Decides-and (nat_lt 0 (length digits)) (are_digits digits && is_short value) (Decides-ltb 0 (length digits))
      (Decides-and (are_digits digits) (is_short value) (digits_told digits) (short_told value))

  written_some : (number : ℤ) → written sign digits ≡ Some number → IsNumeral 10 digits × (FitsSigned w64 number × (number ≡ value))
  written_some number h =
      elim is_written as (λ (b : Bool). is_written ≡ b → cond b (Some value) None ≡ Some number → IsNumeral 10 digits × (FitsSigned w64 number × (number ≡ value))) [
        | true ↦ λ is at. (
            let parts = written_told.0 is in
            let same : value ≡ number = (let found : Some value ≡ Some number = at in cc) in
            ((parts.0, parts.1.0), (subst (λ (z : ℤ). FitsSigned w64 z) same parts.1.1, sym same)))
        | false ↦ λ _ at. absurd (cc)
      ] refl h

  written_from : IsNumeral 10 digits → FitsSigned w64 value → written sign digits ≡ Some value
  written_from numeral fits = ap (λ (b : Bool). cond b (Some value) None) (written_told.1 (numeral.0, (numeral.1, fits)))

-- a minus is no digit
not_minus : (byte : ℕ) → digit_value byte < 10 → (byte == 45) ≡ false
not_minus byte digit =
    elim (byte == 45) as (λ (b : Bool). (byte == 45) ≡ b → b ≡ false) [
      | true ↦ λ is. (
          let same : byte ≡ 45 = grind (arith, nat_tests) in
          let wrong : 36 < 10 = subst (λ n. digit_value n < 10) same digit in
          absurd (omega (arith, wrong)))
      | false ↦ λ _. refl
    ] refl

pub reading_some : (text : List ℕ) (number : ℤ) → reading text ≡ Some number → ReadsAs text number
reading_some [] number h = absurd (cc)
reading_some (first ∷ rest) number h =
    elim (first == 45) as (λ (b : Bool). (first == 45) ≡ b → cond b (written minus rest) (written plus (first ∷ rest)) ≡ Some number → ReadsAs (first ∷ rest) number) [
      | true ↦ λ is at. (
          let found = written_some minus rest number at in
          let byte : first ≡ 45 = grind (arith, nat_tests) in
          ((rest, found.0, inr (ap (λ n. n ∷ rest) byte, found.1.1)), found.1.0))
      | false ↦ λ _ at. (
          let found = written_some plus (first ∷ rest) number at in
          ((first ∷ rest, found.0, inl (refl, found.1.1)), found.1.0))
    ] refl h

pub reading_from : (text : List ℕ) (number : ℤ) → ReadsAs text number → reading text ≡ Some number
reading_from [] number reads =
    elim reads.0.2 [
      | inl plain ↦ absurd (omega (arith, reads.0.1.0, ap length plain.0))
      | inr signed ↦ absurd (omega (arith, ap length signed.0))
    ]
reading_from (first ∷ rest) number reads =
    let digits = reads.0.0 in
    elim reads.0.2 [
      | inl plain ↦ (
          let numeral : IsNumeral 10 (first ∷ rest) = subst (λ (l : List ℕ). IsNumeral 10 l) (sym plain.0) reads.0.1 in
          let value : number ≡ plus (digits_value 10 (first ∷ rest)) = plain.1 ∙ ap (λ (l : List ℕ). pos (digits_value 10 l)) (sym plain.0) in
          ap (λ (b : Bool). cond b (written minus rest) (written plus (first ∷ rest))) (not_minus first numeral.1.0)
          ∙ written_from plus (first ∷ rest) numeral (subst (λ (z : ℤ). FitsSigned w64 z) value reads.1) ∙ ap Some (sym value))
      | inr signed ↦ (
          let whole : first ∷ rest ≡ 45 ∷ digits = signed.0 in
          let byte : first ≡ 45 = cc in
          let same : rest ≡ digits = cc in
          let test : (first == 45) ≡ true = ap (λ n. n == 45) byte in
          let numeral : IsNumeral 10 rest = subst (λ (l : List ℕ). IsNumeral 10 l) (sym same) reads.0.1 in
          let value : number ≡ minus (digits_value 10 rest) = signed.1 ∙ ap (λ (l : List ℕ). neg_ℤ (pos (digits_value 10 l))) (sym same) in
          ap (λ (b : Bool). cond b (written minus rest) (written plus (first ∷ rest))) test
          ∙ written_from minus rest numeral (subst (λ (z : ℤ). FitsSigned w64 z) value reads.1) ∙ ap Some (sym value))
    ]

text_told : (xs ys : List ℕ) → Decides (bytes_eq xs ys) (xs ≡ ys)
text_told xs ys =
    (λ is. same_text xs ys (sym is), λ same. subst (λ (l : List ℕ). bytes_eq xs l ≡ true) same (nat_list_eq_equiv.refl xs))

pub flag_some : (text : List ℕ) (flag : Bool) → flag_reading text ≡ Some flag → ReadsAsFlag text flag
flag_some text flag h =
    elim (bytes_eq text (flag_text true)) as (λ (b : Bool). bytes_eq text (flag_text true) ≡ b
    → cond b (Some true) (cond (bytes_eq text (flag_text false)) (Some false) None) ≡ Some flag → ReadsAsFlag text flag) [
      | true ↦ λ is at. (
          let same : true ≡ flag = (let found : Some true ≡ Some flag = at in cc) in
          subst (λ (f : Bool). text ≡ flag_text f) same ((text_told text (flag_text true)).0 is))
      | false ↦ λ _ other.
          elim (bytes_eq text (flag_text false)) as (λ (b : Bool). bytes_eq text (flag_text false) ≡ b → cond b (Some false) None ≡ Some flag → ReadsAsFlag text flag) [
            | true ↦ λ is at. (
                let same : false ≡ flag = (let found : Some false ≡ Some flag = at in cc) in
                subst (λ (f : Bool). text ≡ flag_text f) same ((text_told text (flag_text false)).0 is))
            | false ↦ λ _ at. absurd (cc)
          ] refl other
    ] refl h

pub flag_from : (text : List ℕ) (flag : Bool) → ReadsAsFlag text flag → flag_reading text ≡ Some flag
flag_from text true reads = subst (λ (l : List ℕ). flag_reading l ≡ Some true) (sym reads) refl
flag_from text false reads = subst (λ (l : List ℕ). flag_reading l ≡ Some false) (sym reads) refl

-- what was found is what is worked out
pub number_found : (text : List ℕ) (found : Option ℤ) → IfSome found (λ number. ReadsAs text number) → IfNone found ((number : ℤ) → ¬ ReadsAs text number)
    → found ≡ reading text
number_found text (Some number) some none = sym (reading_from text number some)
number_found text None some none =
    elim (reading text) as (λ (r : Option ℤ). reading text ≡ r → None ≡ r) [
      | None ↦ λ _. refl
      | Some number ↦ λ is. absurd (none number (reading_some text number is))
    ] refl

pub flag_found : (text : List ℕ) (found : Option Bool) → IfSome found (λ flag. ReadsAsFlag text flag) → IfNone found ((flag : Bool) → ¬ ReadsAsFlag text flag)
    → found ≡ flag_reading text
flag_found text (Some flag) some none = sym (flag_from text flag some)
flag_found text None some none =
    elim (flag_reading text) as (λ (r : Option Bool). flag_reading text ≡ r → None ≡ r) [
      | None ↦ λ _. refl
      | Some flag ↦ λ is. absurd (none flag (flag_some text flag is))
    ] refl
