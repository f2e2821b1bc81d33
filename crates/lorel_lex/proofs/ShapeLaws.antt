-- That each list of bytes begins with a token or with none.
use Rattle.std.proofs.Common.{◌≡◌, ◌≢◌, ℕ, ◌+◌, ◌<◌, Bool, true, false, List, [], ◌∷◌, ◌++◌, length, get_or, take, drop, Option, Some, None, suc, refl, inl, inr, ◌⊎◌, arith, eqb, eqb-true}
use Rattle.std.specs.Prelude.{pos, neg_ℤ}
use Rattle.std.specs.Char.{is_ascii_digit}
use Rattle.std.specs.Str.Parse.{digits_value}
use Rattle.std.proofs.lemmas.Bool.{cases_Bool, cases_lt}
use Rattle.lorel_lex.specs.Types.{Kind, PathOf, Number, Local, Chars, Quoted, Symbol, BadToken, ByteClass, Letter, Digit, Minus, Ampersand, DoubleQuote, SingleQuote, Other}
use Rattle.lore_base.specs.Quotes.{IsQuoted}
use Rattle.lorel_tokens.specs.Shapes.{is_pattern_byte, begins}
use Rattle.lorel_lex.specs.Tokens.{BeginsNone}
use Rattle.lorel_lex.specs.inside.Lexing.{class_of, begins_path_of, single, pair_at, BeginsSymbol, escaped_after, IsShape, ClosesAt, Encloses}
use Rattle.lorel_lex.proofs.RunLaws.{a_run}
use Rattle.lorel_lex.proofs.ClassLaws.{class_says}
use Rattle.lorel_lex.proofs.WordLaws.{word_kind, path_of_shape, word_shape}
use Rattle.lorel_lex.proofs.NumberLaws.{rest_is, unsigned_shape, signed_shape, second_some, minus_symbol, local_shape, no_local}
use Rattle.lorel_lex.proofs.ContentsLaws.{no_quote, a_text}
use Rattle.lorel_lex.proofs.QuotedLaws.{none_unclosed, none_contents, encloses, text_shape, no_text, label_shape, no_label, empty_label}
use Rattle.lorel_lex.proofs.SignLaws.{pair_shape, single_shape, no_symbol, other_symbol}

-- a token of some shape at the front, or none
abbrev pub HasShape : List ℕ → Type 0
HasShape bytes = ((kind : Kind) × (len : ℕ) × IsShape bytes kind len) ⊎ BeginsNone bytes

a_word : (bytes : List ℕ) → class_of (get_or bytes 0 0) ≡ Letter → HasShape bytes
a_word bytes class = elim (cases_Bool (begins_path_of bytes)) [
  | inl path ↦ inl (PathOf, 7, path_of_shape bytes class path)
  | inr other ↦ let (len, run) = a_run is_pattern_byte bytes in inl (word_kind (take len bytes), len, word_shape bytes len class other run)
]

a_number : (bytes : List ℕ) → class_of (get_or bytes 0 0) ≡ Digit → HasShape bytes
a_number bytes class =
    let (len, run) = a_run is_ascii_digit bytes in
    let number = pos (digits_value 10 (take len bytes)) in
    inl (Number number, len, unsigned_shape bytes number len run class refl)

maybe : {A : Type 0} (found : Option A) → (found ≡ None) ⊎ ((a : A) × (found ≡ Some a))
maybe None = inl refl
maybe (Some a) = inr (a, refl)

a_symbol : (bytes : List ℕ) → 0 < length bytes → BeginsSymbol bytes → HasShape bytes
a_symbol bytes some only = elim (maybe (pair_at bytes)) [
  | inl none ↦ elim (maybe (single (get_or bytes 0 0))) [
    | inl missing ↦ inr (no_symbol bytes only none missing)
    | inr (sign, found) ↦ inl (Symbol sign, 1, single_shape bytes sign some only none found)
  ]
  | inr (sign, found) ↦ inl (Symbol sign, 2, pair_shape bytes sign only found)
]

a_minus : (bytes : List ℕ) → 0 < length bytes → get_or bytes 0 0 ≡ 45 → HasShape bytes
a_minus bytes some e = elim (cases_Bool (begins is_ascii_digit (drop 1 bytes))) [
  | inl digit ↦
      let minus = rest_is 45 bytes some e in
      let (len, run) = a_run is_ascii_digit (drop 1 bytes) in
      let digits = take len (drop 1 bytes) in
      let number = neg_ℤ (pos (digits_value 10 digits)) in
      inl (Number number, len + 1, signed_shape bytes (drop 1 bytes) digits number len minus run (second_some 45 bytes (drop 1 bytes) len minus digit run) refl refl)
  | inr plain ↦ a_symbol bytes some (minus_symbol bytes some e plain)
]

a_local : (bytes : List ℕ) → 0 < length bytes → get_or bytes 0 0 ≡ 38 → HasShape bytes
a_local bytes some e =
    let behind = rest_is 38 bytes some e in
    let (len, run) = a_run is_ascii_digit (drop 1 bytes) in
    elim (cases_lt 0 len) [
      | inl digit ↦
          let digits = take len (drop 1 bytes) in
          inl (Local (digits_value 10 digits), len + 1, local_shape bytes (drop 1 bytes) digits (digits_value 10 digits) len behind run digit refl refl)
      | inr none ↦ inr (no_local bytes (drop 1 bytes) len behind run (omega arith))
    ]

-- each list of bytes holds a quote that ends the contents, or none
Ends : ℕ → List ℕ → Bool → Type 0
Ends quote bytes escaped = ((at : ℕ) × (at < length bytes) × (escaped_after quote escaped (take at bytes) ≡ Some false) × (get_or bytes at 0 ≡ quote))
    ⊎ ((before : Bool) × (escaped_after quote escaped bytes ≡ Some before))

ended : (quote : ℕ) (bytes : List ℕ) (escaped : Bool) → Ends quote bytes escaped
unfolding Ends
ended quote [] escaped = inr (escaped, refl)
ended quote (byte ∷ bytes) true = elim (ended quote bytes false) [
  | inl (at, within, inside, is) ↦ inl (suc at, omega arith, inside, is)
  | inr (before, e) ↦ inr (before, e)
]
ended quote (byte ∷ bytes) false = elim (cases_Bool (eqb byte quote)) [
  | inl ends ↦ inl (0, omega arith, refl, eqb-true byte quote ends)
  | inr other ↦ elim (ended quote bytes (eqb byte 92)) [
    | inl (at, within, inside, is) ↦ inl (suc at, omega arith, rw other inside, is)
    | inr (before, e) ↦ inr (before, rw other e)
  ]
]

-- each list of bytes that a quote begins has quoted contents at the front, or none
abbrev HasQuoted : ℕ → List ℕ → Type 0
HasQuoted quote bytes = ((text : List ℕ) × (len : ℕ) × Encloses quote bytes text len) ⊎ ((front back text : List ℕ) → bytes ≡ front ++ back → IsQuoted quote front text → ⊥)

some_quoted : (quote : ℕ) (bytes : List ℕ) → quote ≢ 92 → 0 < length bytes → get_or bytes 0 0 ≡ quote → HasQuoted quote bytes
unfolding Ends
some_quoted quote bytes plain some e =
    let rest = drop 1 bytes in
    let behind = rest_is quote bytes some e in
    elim (ended quote (drop 1 bytes) false) [
      | inl (at, within, inside, is) ↦
          let closes : ClosesAt quote (drop 1 bytes) at = record { within = within; inside = inside; ended = is } in
          elim (a_text quote (take at (drop 1 bytes))) [
            | inl (text, f) ↦ inl (text, at + 2, encloses quote bytes (drop 1 bytes) (take at (drop 1 bytes)) text at plain behind closes refl f)
            | inr none ↦ inr ((none_contents quote bytes (drop 1 bytes) (take at (drop 1 bytes)) at BadToken plain behind closes refl (λ free. (refl, none)) (λ e. cc)).1)
          ]
      | inr (before, f) ↦ inr ((none_unclosed quote bytes (drop 1 bytes) plain behind (no_quote quote (drop 1 bytes) before f) (λ e. cc)).1)
    ]

a_quoted_text : (bytes : List ℕ) → 0 < length bytes → get_or bytes 0 0 ≡ 34 → HasShape bytes
a_quoted_text bytes some e = elim (some_quoted 34 bytes (λ same. omega arith) some e) [
  | inl (text, len, q) ↦ inl (Chars text, len, text_shape bytes text len e q)
  | inr none ↦ inr (no_text bytes e none)
]

a_label : (bytes : List ℕ) → 0 < length bytes → get_or bytes 0 0 ≡ 39 → HasShape bytes
a_label bytes some e = elim (some_quoted 39 bytes (λ same. omega arith) some e) [
  | inl (label, len, q) ↦ elim (cases_lt 0 (length label)) [
    | inl more ↦ inl (Quoted label, len, label_shape bytes label len e q (omega arith))
    | inr none ↦ inr (empty_label bytes label len e q (omega arith))
  ]
  | inr none ↦ inr (no_label bytes e (λ front back text parts q some. none front back text parts q))
]

by_class : (bytes : List ℕ) (class : ByteClass) → 0 < length bytes → class_of (get_or bytes 0 0) ≡ class → HasShape bytes
by_class bytes Letter some e = a_word bytes e
by_class bytes Digit some e = a_number bytes e
by_class bytes Minus some e = a_minus bytes some (eqb-true (get_or bytes 0 0) 45 (class_says (get_or bytes 0 0) Minus e))
by_class bytes Ampersand some e = a_local bytes some (eqb-true (get_or bytes 0 0) 38 (class_says (get_or bytes 0 0) Ampersand e))
by_class bytes DoubleQuote some e = a_quoted_text bytes some (eqb-true (get_or bytes 0 0) 34 (class_says (get_or bytes 0 0) DoubleQuote e))
by_class bytes SingleQuote some e = a_label bytes some (eqb-true (get_or bytes 0 0) 39 (class_says (get_or bytes 0 0) SingleQuote e))
by_class bytes Other some e = a_symbol bytes some (other_symbol bytes e)

pub has_shape : (bytes : List ℕ) → 0 < length bytes → HasShape bytes
has_shape bytes some = by_class bytes (class_of (get_or bytes 0 0)) some refl
