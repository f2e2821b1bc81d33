-- That bytes have one longest token at their front, and one fault.
use Rattle.std.proofs.Common.{◌≡◌, ℕ, true, cond, eqb, List, [], ◌∷◌, ◌++◌, length, refl, sym, ap, ◌∙◌, subst, inl, inr, arith}
use Rattle.std.specs.Prelude.{ℤ, pos, neg_ℤ}
use Rattle.std.specs.Char.{is_ascii_digit}
use Rattle.std.specs.Str.Parse.{IsNumeral, digits_value}
use Rattle.std.proofs.lemmas.Str.Parse.{digit_from_value}
use Rattle.std.proofs.lemmas.Bool.{cases_order}
use Rattle.lorel_lex.specs.Types.{Kind, Number, Local, Chars, Quoted, Symbol, Sign, LexFault, BadToken, RealRefused, NumberRange, TextTooLong, NoMemory, ByteClass, Letter, Digit, Minus, Ampersand, DoubleQuote, SingleQuote, Other}
use Rattle.lorel_tokens.specs.Shapes.{IsNumber, IsLocal, sign_text, IsToken}
use Rattle.lorel_lex.specs.Tokens.{IsFirst, Keeps, fault_number, BeginsNone, Breaks, IsFaultAt}
use Rattle.lorel_lex.specs.inside.Lexing.{class_of}
use Rattle.lorel_lex.proofs.SymbolLaws.{same_symbol, Written, written, one, two}
use Rattle.lorel_lex.proofs.ClassLaws.{admits, digit_class, begins_with, digit_kind, minus_kind, local_kind, text_kind, label_kind, other_kind}
use Rattle.lorel_lex.proofs.WordLaws.{word_kind, letter_front}
use Rattle.lorel_lex.proofs.NumberLaws.{digit_passes, no_minus}
use Rattle.lorel_lex.proofs.QuotedLaws.{same_quoted}
use Rattle.lorel_lex.proofs.FaultLaws.{same_cut}

-- the same bytes stand for one thing

letter_is : (text rest : List ℕ) (kind : Kind) → IsToken text rest kind → admits Letter kind ≡ true → kind ≡ word_kind text
letter_is text rest kind s e = elim (letter_front text rest kind s e) [
  | inl (_, is) ↦ is
  | inr (path, _, is) ↦ is ∙ ap word_kind (sym path)
]

digit_plain : (digits more : List ℕ) → IsNumeral 10 digits → digits ≡ 45 ∷ more → ⊥
digit_plain [] more n e = cc
digit_plain (digit ∷ digits) more n e = no_minus digit (digit_passes digit n.1.0) (let minus : digit ≡ 45 = cc in minus)

same_number : (text : List ℕ) (number other : ℤ) → IsNumber text number → IsNumber text other → number ≡ other
same_number text number other (digits, n, inl (e, v)) (digits', n', inl (e', v')) =
    v ∙ ap (λ (l : List ℕ). pos (digits_value 10 l)) (sym e ∙ e') ∙ sym v'
same_number text number other (digits, n, inr (e, v)) (digits', n', inr (e', v')) =
    let same : digits ≡ digits' = let both : 45 ∷ digits ≡ 45 ∷ digits' = sym e ∙ e' in cc in
    v ∙ ap (λ (l : List ℕ). neg_ℤ (pos (digits_value 10 l))) same ∙ sym v'
same_number text number other (digits, n, inl (e, v)) (digits', n', inr (e', v')) = absurd (digit_plain digits digits' n (sym e ∙ e'))
same_number text number other (digits, n, inr (e, v)) (digits', n', inl (e', v')) = absurd (digit_plain digits' digits n' (sym e' ∙ e))

same_local : (text : List ℕ) (local other : ℕ) → IsLocal text local → IsLocal text other → local ≡ other
same_local text local other (digits, n, e, v) (digits', n', e', v') =
    let same : digits ≡ digits' = let both : 38 ∷ digits ≡ 38 ∷ digits' = sym e ∙ e' in cc in
    v ∙ ap (digits_value 10) same ∙ sym v'

-- a number that a minus begins is no symbol
alone : (digits : List ℕ) → IsNumeral 10 digits → digits ≡ [] → ⊥
alone digits n e = omega (arith, n.0, ap length e)

no_equal : (digits more : List ℕ) → IsNumeral 10 digits → digits ≡ 61 ∷ more → ⊥
no_equal [] more n e = cc
no_equal (digit ∷ digits) more n e =
    let same : digit ≡ 61 = cc in
    let passes : is_ascii_digit 61 ≡ true = ap is_ascii_digit (sym same) ∙ digit_passes digit n.1.0 in cc

plain_class : (digits others : List ℕ) (first : ℕ) → IsNumeral 10 digits → digits ≡ first ∷ others → class_of first ≡ Digit
plain_class [] others first n e = absurd (cc)
plain_class (digit ∷ digits) others first n e = let same : digit ≡ first = cc in ap class_of (sym same) ∙ digit_class digit (digit_from_value digit n.1.0)

number_written : (text others : List ℕ) (first : ℕ) (number : ℤ) (sign : Sign) → text ≡ first ∷ others → class_of first ≡ Minus → IsNumber text number → text ≡ sign_text sign → Written sign → ⊥
number_written text others first number sign e class (digits, n, inl (f, _)) g w =
    let digit = plain_class digits others first n (sym f ∙ e) in let wrong : Digit ≡ Minus = sym digit ∙ class in cc
number_written text others first number sign e class (digits, n, inr (f, _)) g (one byte t s) =
    let tails : 45 ∷ digits ≡ byte ∷ [] = sym f ∙ g ∙ t in alone digits n (let none : digits ≡ [] = cc in none)
number_written text others first number sign e class (digits, n, inr (f, _)) g (two byte t s) =
    let tails : 45 ∷ digits ≡ byte ∷ 61 ∷ [] = sym f ∙ g ∙ t in no_equal digits [] n (let rest : digits ≡ 61 ∷ [] = cc in rest)

-- what a first byte of a class begins is one thing
by_class : (text rest others : List ℕ) (first : ℕ) (kind other : Kind) (class : ByteClass) → text ≡ first ∷ others → class_of first ≡ class → IsToken text rest kind → IsToken text rest other
    → admits class kind ≡ true → admits class other ≡ true → kind ≡ other
by_class text rest others first kind other Letter e is s t a b = letter_is text rest kind s a ∙ sym (letter_is text rest other t b)
by_class text rest others first kind other Digit e is s t a b =
    let (n, m, k) = digit_kind text rest kind s a in
    let (n', m', k') = digit_kind text rest other t b in
    k ∙ ap Number (same_number text n n' m m') ∙ sym k'
by_class text rest others first kind other Minus e is s t a b = elim (minus_kind text rest kind s a) [
  | inl (n, m, k) ↦ elim (minus_kind text rest other t b) [
    | inl (n', m', k') ↦ k ∙ ap Number (same_number text n n' m m') ∙ sym k'
    | inr (sign, m', k') ↦ absurd (number_written text others first n sign e is m m' (written sign))
  ]
  | inr (sign, m, k) ↦ elim (minus_kind text rest other t b) [
    | inl (n', m', k') ↦ absurd (number_written text others first n' sign e is m' m (written sign))
    | inr (sign', m', k') ↦ k ∙ ap Symbol (same_symbol text sign sign' m m') ∙ sym k'
  ]
]
by_class text rest others first kind other Ampersand e is s t a b =
    let (n, m, k) = local_kind text rest kind s a in
    let (n', m', k') = local_kind text rest other t b in
    k ∙ ap Local (same_local text n n' m m') ∙ sym k'
by_class text rest others first kind other DoubleQuote e is s t a b =
    let (n, m, k) = text_kind text rest kind s a in
    let (n', m', k') = text_kind text rest other t b in
    k ∙ ap Chars (same_quoted 34 text n n' m m') ∙ sym k'
by_class text rest others first kind other SingleQuote e is s t a b =
    let (n, m, _, k) = label_kind text rest kind s a in
    let (n', m', _, k') = label_kind text rest other t b in
    k ∙ ap Quoted (same_quoted 39 text n n' m m') ∙ sym k'
by_class text rest others first kind other Other e is s t a b =
    let (n, m, k) = other_kind text rest kind s a in
    let (n', m', k') = other_kind text rest other t b in
    k ∙ ap Symbol (same_symbol text n n' m m') ∙ sym k'

same_kind : (text rest : List ℕ) (kind other : Kind) → IsToken text rest kind → IsToken text rest other → kind ≡ other
same_kind text rest kind other s t =
    let b = begins_with text rest kind s in
    let d = begins_with text rest other t in
    let firsts : d.first ≡ b.first = let both : d.first ∷ d.others ≡ b.first ∷ b.others = sym d.parts ∙ b.parts in cc in
    by_class text rest b.others b.first kind other (class_of b.first) b.parts refl s t b.class (ap (λ (byte : ℕ). admits (class_of byte) other) (sym firsts) ∙ d.class)

-- bytes have one longest token at their front
pub same_first : (bytes next rest back : List ℕ) (kind other : Kind) → bytes ≡ next → (f : IsFirst bytes kind rest) (g : IsFirst next other back) → (f.text ≡ g.text) × (rest ≡ back) × (kind ≡ other)
same_first bytes next rest back kind other same f g =
    let e : f.text ++ rest ≡ g.text ++ back = sym f.parts ∙ same ∙ g.parts in
    let below = f.longest g.text back other e g.token in
    let above = g.longest f.text rest kind (sym e) f.token in
    let (texts, rests) = same_cut f.text g.text rest back (omega arith) e in
    let other' : IsToken f.text rest other = subst (λ (l : List ℕ). IsToken f.text l other) (sym rests) (subst (λ (l : List ℕ). IsToken l back other) (sym texts) g.token) in
    (texts, rests, same_kind f.text rest kind other f.token other')

-- one fault

-- the number tells the fault
named : ℕ → LexFault
named number = cond (eqb number 1) BadToken (cond (eqb number 2) RealRefused (cond (eqb number 3) NumberRange (cond (eqb number 4) TextTooLong NoMemory)))

named_is : (fault : LexFault) → named (fault_number fault) ≡ fault
unfolding named
named_is BadToken = refl
named_is RealRefused = refl
named_is NumberRange = refl
named_is TextTooLong = refl
named_is NoMemory = refl

same_break : (fault other : LexFault) (bytes : List ℕ) → Breaks fault bytes → Breaks other bytes → fault ≡ other
same_break fault other bytes f g =
    let (_, rests, kinds) = same_first bytes bytes f.rest g.rest f.kind g.kind refl f.first g.first in
    let moved : (cause : LexFault) → Keeps cause g.kind g.rest → Keeps cause f.kind f.rest =
    λ (cause : LexFault) k. subst (λ (l : List ℕ). Keeps cause f.kind l) (sym rests) (subst (λ (a : Kind). Keeps cause a g.rest) (sym kinds) k) in
    let back : (cause : LexFault) → Keeps cause f.kind f.rest → Keeps cause g.kind g.rest =
    λ (cause : LexFault) k. subst (λ (l : List ℕ). Keeps cause g.kind l) rests (subst (λ (a : Kind). Keeps cause a f.rest) kinds k) in
    elim (cases_order (fault_number fault) (fault_number other)) [
      | inl same ↦ sym (named_is fault) ∙ ap named same ∙ named_is other
      | inr (inl below) ↦ absurd (f.broken (moved fault (g.least fault below)))
      | inr (inr above) ↦ absurd (g.broken (back other (f.least other above)))
    ]

none_first : (bytes rest : List ℕ) (kind : Kind) → BeginsNone bytes → IsFirst bytes kind rest → ⊥
none_first bytes rest kind none f = none f.text rest kind f.parts f.token

-- a place has one fault
pub same_fault : (fault other : LexFault) (bytes : List ℕ) → IsFaultAt fault bytes → IsFaultAt other bytes → fault ≡ other
same_fault fault other bytes (inl (bad, none)) (inl (bad', none')) = bad ∙ sym bad'
same_fault fault other bytes (inl (bad, none)) (inr g) = absurd (none_first bytes g.rest g.kind none g.first)
same_fault fault other bytes (inr f) (inl (bad, none)) = absurd (none_first bytes f.rest f.kind none f.first)
same_fault fault other bytes (inr f) (inr g) = same_break fault other bytes f g

-- a place where a token stands has no fault
pub no_fault : (fault : LexFault) (bytes rest : List ℕ) (kind : Kind) → IsFirst bytes kind rest → ((cause : LexFault) → Keeps cause kind rest) → IsFaultAt fault bytes → ⊥
no_fault fault bytes rest kind f kept (inl (bad, none)) = none_first bytes rest kind none f
no_fault fault bytes rest kind f kept (inr g) =
    let (_, rests, kinds) = same_first bytes bytes rest g.rest kind g.kind refl f g.first in
    g.broken (subst (λ (l : List ℕ). Keeps fault g.kind l) rests (subst (λ (a : Kind). Keeps fault a rest) kinds (kept fault)))
