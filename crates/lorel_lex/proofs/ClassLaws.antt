-- A token's first byte tells which kinds of token it may be.
use Rattle.std.proofs.Common.{◌≡◌, ℕ, ◌≤◌, Bool, true, false, cond, List, [], ◌∷◌, ◌++◌, length, get_or, refl, sym, ap, ◌∙◌, subst, inl, inr, ◌⊎◌, arith, eqb, leb}
use Rattle.std.specs.Prelude.{ℤ, codes}
use Rattle.std.specs.Int.{IsInRange}
use Rattle.std.specs.Char.{is_ascii_digit}
use Rattle.std.specs.Str.Parse.{IsNumeral}
use Rattle.std.proofs.lemmas.Str.Parse.{digit_from_value}
use Rattle.std.proofs.lemmas.Bool.{lt-leb, le-leb, ne_eqb, or_left}
use Rattle.lore_base.specs.Names.{is_word_start}
use Rattle.lorel_lex.specs.Types.{Kind, Word, Wild, PathOf, Number, Local, Chars, Quoted, Symbol, Sign, LeftBrace, RightBrace, LeftParen, RightParen, Comma, Dot, Colon, Assign, Equal, SameAs, NotEqual, Less, LessEqual, Greater, GreaterEqual, PlusAssign, MinusAssign, Question, Star, Plus, Bar, Hash, At, ByteClass, Letter, Digit, Minus, Ampersand, DoubleQuote, SingleQuote, Other}
use Rattle.lore_base.specs.Quotes.{IsQuoted}
use Rattle.lorel_tokens.specs.Shapes.{is_pattern_start, IsNumber, IsLocal, sign_text, IsToken}
use Rattle.lorel_lex.specs.inside.Lexing.{class_of}

-- the kinds of token that a byte of a class may begin
abbrev pub admits : ByteClass → Kind → Bool
admits Letter (Word word) = true
admits Letter (Wild pattern) = true
admits Letter PathOf = true
admits Digit (Number number) = true
admits Minus (Number number) = true
admits Minus (Symbol sign) = true
admits Ampersand (Local local) = true
admits DoubleQuote (Chars contents) = true
admits SingleQuote (Quoted label) = true
admits Other (Symbol sign) = true
admits _ _ = false

letter_class : (byte : ℕ) → is_pattern_start byte ≡ true → class_of byte ≡ Letter
letter_class byte e = rw e refl

pub digit_class : (byte : ℕ) → IsInRange 48 57 byte → class_of byte ≡ Digit
digit_class byte r =
    let upper : leb 65 byte ≡ false = lt-leb 65 byte (omega arith) in
    let lower : leb 97 byte ≡ false = lt-leb 97 byte (omega arith) in
    let line : eqb byte 95 ≡ false = ne_eqb byte 95 (λ e. omega arith) in
    let percent : eqb byte 37 ≡ false = ne_eqb byte 37 (λ e. omega arith) in
    let least : leb 48 byte ≡ true = le-leb 48 byte (omega arith) in
    let most : leb byte 57 ≡ true = le-leb byte 57 (omega arith) in
    rw (upper, lower, line, percent, least, most) refl

-- what each class says of its bytes
abbrev pub says : ByteClass → Bool → Bool → Bool → Bool → Bool → Bool → Bool
says Letter word digit minus ampersand double single = word
says Digit word digit minus ampersand double single = digit
says Minus word digit minus ampersand double single = minus
says Ampersand word digit minus ampersand double single = ampersand
says DoubleQuote word digit minus ampersand double single = double
says SingleQuote word digit minus ampersand double single = single
says Other word digit minus ampersand double single = true

said : (word digit minus ampersand double single : Bool)
    → says (cond word Letter (cond digit Digit (cond minus Minus (cond ampersand Ampersand (cond double DoubleQuote (cond single SingleQuote Other)))))) word digit minus ampersand double single ≡ true
said true digit minus ampersand double single = refl
said false true minus ampersand double single = refl
said false false true ampersand double single = refl
said false false false true double single = refl
said false false false false true single = refl
said false false false false false true = refl
said false false false false false false = refl

pub class_says : (byte : ℕ) (class : ByteClass) → class_of byte ≡ class
    → says class (is_pattern_start byte) (is_ascii_digit byte) (eqb byte 45) (eqb byte 38) (eqb byte 34) (eqb byte 39) ≡ true
class_says byte class e =
    subst (λ (c : ByteClass). says c (is_pattern_start byte) (is_ascii_digit byte) (eqb byte 45) (eqb byte 38) (eqb byte 34) (eqb byte 39) ≡ true) e
    (said (is_pattern_start byte) (is_ascii_digit byte) (eqb byte 45) (eqb byte 38) (eqb byte 34) (eqb byte 39))

-- the first byte of a token
pub record Begins (text : List ℕ) (kind : Kind) : Type 0 where
  pub first : ℕ
  pub others : List ℕ
  pub parts : text ≡ first ∷ others
  pub class : admits (class_of first) kind ≡ true

begins_digit : (text digits : List ℕ) (number : ℤ) → IsNumeral 10 digits → text ≡ digits → Begins text (Number number)
begins_digit text [] number n e = absurd (omega (arith, n.0))
begins_digit text (digit ∷ digits) number n e =
    let class = digit_class digit (digit_from_value digit n.1.0) in
    record { first = digit; others = digits; parts = e; class = ap (λ (c : ByteClass). admits c (Number number)) class }

begins_symbol : (text : List ℕ) (sign : Sign) → text ≡ sign_text sign → Begins text (Symbol sign)
begins_symbol text LeftBrace e = record { first = 123; others = []; parts = e; class = refl }
begins_symbol text RightBrace e = record { first = 125; others = []; parts = e; class = refl }
begins_symbol text LeftParen e = record { first = 40; others = []; parts = e; class = refl }
begins_symbol text RightParen e = record { first = 41; others = []; parts = e; class = refl }
begins_symbol text Comma e = record { first = 44; others = []; parts = e; class = refl }
begins_symbol text Dot e = record { first = 46; others = []; parts = e; class = refl }
begins_symbol text Colon e = record { first = 58; others = []; parts = e; class = refl }
begins_symbol text Assign e = record { first = 58; others = 61 ∷ []; parts = e; class = refl }
begins_symbol text Equal e = record { first = 61; others = []; parts = e; class = refl }
begins_symbol text SameAs e = record { first = 61; others = 61 ∷ []; parts = e; class = refl }
begins_symbol text NotEqual e = record { first = 33; others = 61 ∷ []; parts = e; class = refl }
begins_symbol text Less e = record { first = 60; others = []; parts = e; class = refl }
begins_symbol text LessEqual e = record { first = 60; others = 61 ∷ []; parts = e; class = refl }
begins_symbol text Greater e = record { first = 62; others = []; parts = e; class = refl }
begins_symbol text GreaterEqual e = record { first = 62; others = 61 ∷ []; parts = e; class = refl }
begins_symbol text PlusAssign e = record { first = 43; others = 61 ∷ []; parts = e; class = refl }
begins_symbol text MinusAssign e = record { first = 45; others = 61 ∷ []; parts = e; class = refl }
begins_symbol text Question e = record { first = 63; others = []; parts = e; class = refl }
begins_symbol text Star e = record { first = 42; others = []; parts = e; class = refl }
begins_symbol text Plus e = record { first = 43; others = []; parts = e; class = refl }
begins_symbol text Bar e = record { first = 124; others = []; parts = e; class = refl }
begins_symbol text Hash e = record { first = 35; others = []; parts = e; class = refl }
begins_symbol text At e = record { first = 64; others = []; parts = e; class = refl }

pub begins_with : (text rest : List ℕ) (kind : Kind) → IsToken text rest kind → Begins text kind
begins_with [] rest (Word word) s = absurd s.0
begins_with (byte ∷ bytes) rest (Word word) s =
    let class = letter_class byte (or_left (is_word_start byte) (eqb byte 37) s.0.0) in
    record { first = byte; others = bytes; parts = refl; class = ap (λ (c : ByteClass). admits c (Word word)) class }
begins_with [] rest (Wild pattern) s = absurd s.0
begins_with (byte ∷ bytes) rest (Wild pattern) s =
    record { first = byte; others = bytes; parts = refl; class = ap (λ (c : ByteClass). admits c (Wild pattern)) (letter_class byte s.0.0) }
begins_with text rest PathOf s = record { first = 112; others = codes "ath-of"; parts = s.0; class = refl }
begins_with text rest (Number number) (digits, numeral, inl plain) = begins_digit text digits number numeral plain.0
begins_with text rest (Number number) (digits, numeral, inr minus) = record { first = 45; others = digits; parts = minus.0; class = refl }
begins_with text rest (Local local) (digits, numeral, e, v) = record { first = 38; others = digits; parts = e; class = refl }
begins_with text rest (Chars contents) s = record { first = 34; others = s.0 ++ 34 ∷ []; parts = s.1; class = refl }
begins_with text rest (Quoted label) s = record { first = 39; others = s.0.0 ++ 39 ∷ []; parts = s.0.1; class = refl }
begins_with text rest (Symbol sign) s = begins_symbol text sign s

-- the class of tokens at the front of bytes
pub front_class : (bytes front back : List ℕ) (kind : Kind) → bytes ≡ front ++ back → IsToken front back kind → admits (class_of (get_or bytes 0 0)) kind ≡ true
front_class bytes front back kind e s =
    let b = begins_with front back kind s in
    let first : get_or bytes 0 0 ≡ b.first = ap (λ (l : List ℕ). get_or l 0 0) (e ∙ ap (λ (l : List ℕ). l ++ back) b.parts) in
    ap (λ (byte : ℕ). admits (class_of byte) kind) first ∙ b.class

-- the same, where the class is known
pub admitted : (bytes front back : List ℕ) (kind : Kind) (class : ByteClass) → class_of (get_or bytes 0 0) ≡ class → bytes ≡ front ++ back → IsToken front back kind → admits class kind ≡ true
admitted bytes front back kind class same e s = ap (λ (c : ByteClass). admits c kind) (sym same) ∙ front_class bytes front back kind e s

-- what a token of a class is

pub digit_kind : (text rest : List ℕ) (kind : Kind) → IsToken text rest kind → admits Digit kind ≡ true → (number : ℤ) × IsNumber text number × (kind ≡ Number number)
digit_kind text rest (Number number) s e = (number, s, refl)
digit_kind text rest _ s e = absurd (cc)

pub minus_kind : (text rest : List ℕ) (kind : Kind) → IsToken text rest kind → admits Minus kind ≡ true
    → ((number : ℤ) × IsNumber text number × (kind ≡ Number number)) ⊎ ((sign : Sign) × (text ≡ sign_text sign) × (kind ≡ Symbol sign))
minus_kind text rest (Number number) s e = inl (number, s, refl)
minus_kind text rest (Symbol sign) s e = inr (sign, s, refl)
minus_kind text rest _ s e = absurd (cc)

pub local_kind : (text rest : List ℕ) (kind : Kind) → IsToken text rest kind → admits Ampersand kind ≡ true → (local : ℕ) × IsLocal text local × (kind ≡ Local local)
local_kind text rest (Local local) s e = (local, s, refl)
local_kind text rest _ s e = absurd (cc)

pub text_kind : (text rest : List ℕ) (kind : Kind) → IsToken text rest kind → admits DoubleQuote kind ≡ true → (contents : List ℕ) × IsQuoted 34 text contents × (kind ≡ Chars contents)
text_kind text rest (Chars contents) s e = (contents, s, refl)
text_kind text rest _ s e = absurd (cc)

pub label_kind : (text rest : List ℕ) (kind : Kind) → IsToken text rest kind → admits SingleQuote kind ≡ true
    → (label : List ℕ) × IsQuoted 39 text label × (1 ≤ length label) × (kind ≡ Quoted label)
label_kind text rest (Quoted label) s e = (label, s.0, s.1, refl)
label_kind text rest _ s e = absurd (cc)

pub other_kind : (text rest : List ℕ) (kind : Kind) → IsToken text rest kind → admits Other kind ≡ true → (sign : Sign) × (text ≡ sign_text sign) × (kind ≡ Symbol sign)
other_kind text rest (Symbol sign) s e = (sign, s, refl)
other_kind text rest _ s e = absurd (cc)
