-- A written token is the longest at its front.
use Rattle.std.proofs.Common.{◌≡◌, ◌≢◌, ℕ, ◌<◌, ◌≤◌, ◌^◌, Bool, true, false, List, [], ◌∷◌, ◌++◌, length, get_or, Some, None, zero, suc, refl, sym, ap, ◌∙◌, subst, inl, inr, arith, eqb, eqb-true}
use Rattle.std.specs.Prelude.{pos, negsuc, neg_ℤ, codes, is_some, ◌||◌, ◌&&◌}
use Rattle.std.specs.List.{list_all, list_any}
use Rattle.std.specs.Char.{is_ascii_digit}
use Rattle.std.specs.Fmt.{decimal}
use Rattle.std.specs.Str.Parse.{IsNumeral, digits_value}
use Rattle.std.proofs.lemmas.Fmt.{decimal_is_IsNumeral}
use Rattle.std.proofs.lemmas.Bool.{and_parts, or_cases, or_from, or_left, or_right, cases_Bool, cases_lt, ne_eqb}
use Rattle.std.proofs.lemmas.List.{length-append, get_or_append_left}
use Rattle.lore_base.specs.Names.{is_word_start, is_word_byte}
use Rattle.lore_base.specs.Quotes.{in_quotes, IsQuoted}
use Rattle.lore_base.proofs.QuoteLaws.{quoted-back}
use Rattle.lorel_lex.specs.Types.{Kind, Word, Wild, PathOf, Number, Local, Chars, Quoted, Symbol, Sign, LexFault, ByteClass, Letter, Digit, Minus, Ampersand, DoubleQuote, SingleQuote, Other}
use Rattle.lorel_lex.specs.Gaps.{is_blank, begins_comment, begins_gap}
use Rattle.lorel_tokens.specs.Shapes.{is_pattern_start, is_pattern_byte, begins, sign_text, IsToken}
use Rattle.lorel_tokens.specs.Forms.{HasForm}
use Rattle.lorel_lex.specs.Tokens.{IsLongest, IsFirst, begins_fraction, IsWhole, IsInRange, IsShort, Keeps}
use Rattle.lorel_lex.specs.inside.Lexing.{class_of, single, paired}
use Rattle.lorel_lex.specs.Writing.{token_text, is_apart, MayFollow}
use Rattle.lorel_lex.proofs.ClassLaws.{admits, begins_with, admitted, text_kind, label_kind, other_kind}
use Rattle.lorel_lex.proofs.ContentsLaws.{same_front, contents_inside}
use Rattle.lorel_lex.proofs.FaultLaws.{kept}
use Rattle.lorel_lex.proofs.NumberLaws.{run_from_AllDigits, digit_passes}
use Rattle.lorel_lex.proofs.QuotedLaws.{front_quoted}
use Rattle.lorel_lex.proofs.SymbolLaws.{Written, written, one, two}
use Rattle.lorel_lex.proofs.TokenLaws.{token_length}
use Rattle.lorel_lex.proofs.WordLaws.{identifier_run, pattern_run}

-- blank bytes

-- what holds of the four blank bytes holds of each
pub blank_is : (test : ℕ → Bool) (is : Bool) → test 32 ≡ is → test 9 ≡ is → test 10 ≡ is → test 13 ≡ is → (byte : ℕ) → is_blank byte ≡ true → test byte ≡ is
blank_is test is space tab feed return byte e = elim (or_cases (eqb byte 32) (eqb byte 9 || (eqb byte 10 || eqb byte 13)) e) [
  | inl same ↦ ap test (eqb-true byte 32 same) ∙ space
  | inr others ↦ elim (or_cases (eqb byte 9) (eqb byte 10 || eqb byte 13) others) [
    | inl same ↦ ap test (eqb-true byte 9 same) ∙ tab
    | inr others ↦ elim (or_cases (eqb byte 10) (eqb byte 13) others) [
      | inl same ↦ ap test (eqb-true byte 10 same) ∙ feed
      | inr same ↦ ap test (eqb-true byte 13 same) ∙ return
    ]
  ]
]

unblank : (test : ℕ → Bool) → test 32 ≡ false → test 9 ≡ false → test 10 ≡ false → test 13 ≡ false → (byte : ℕ) → test byte ≡ true → is_blank byte ≡ false
unblank test space tab feed return byte e = elim (cases_Bool (is_blank byte)) [
  | inl blank ↦ absurd (let fails : test byte ≡ false = blank_is test false space tab feed return byte blank in cc)
  | inr other ↦ other
]

none_blank : (test : ℕ → Bool) → ((byte : ℕ) → test byte ≡ true → is_blank byte ≡ false) → (bytes : List ℕ) → list_all test bytes ≡ true → list_any is_blank bytes ≡ false
none_blank test fails [] e = refl
none_blank test fails (byte ∷ bytes) e =
    let both = and_parts (test byte) (list_all test bytes) e in
    or_from (is_blank byte) (list_any is_blank bytes) (fails byte both.0) (none_blank test fails bytes both.1)

some_at : (test : ℕ → Bool) (bytes : List ℕ) (i : ℕ) → i < length bytes → test (get_or bytes i 0) ≡ true → list_any test bytes ≡ true
some_at test [] i l e = absurd (omega arith)
some_at test (byte ∷ bytes) zero l e = or_left (test byte) (list_any test bytes) e
some_at test (byte ∷ bytes) (suc i) l e = or_right (test byte) (list_any test bytes) (some_at test bytes i (omega arith) e)

is_single : ℕ → Bool
is_single byte = is_some (single byte)

is_paired : ℕ → Bool
is_paired byte = is_some (paired byte)

-- the bytes of a symbol
single_unblank : (byte : ℕ) (sign : Sign) → single byte ≡ Some sign → is_blank byte ≡ false
unfolding is_single
single_unblank byte sign e = unblank is_single refl refl refl refl byte (ap is_some e)

paired_unblank : (byte : ℕ) (sign : Sign) → paired byte ≡ Some sign → is_blank byte ≡ false
unfolding is_paired
paired_unblank byte sign e = unblank is_paired refl refl refl refl byte (ap is_some e)

single_dash : (byte : ℕ) (sign : Sign) → single byte ≡ Some sign → byte ≡ 45 → ⊥
single_dash byte sign e dash = let wrong : None ≡ Some sign = ap single (sym dash) ∙ e in cc

sign_unblank : (sign : Sign) → Written sign → list_any is_blank (sign_text sign) ≡ false
sign_unblank sign (one byte t s) = ap (list_any is_blank) t ∙ or_from (is_blank byte) false (single_unblank byte sign s) refl
sign_unblank sign (two byte t s) = ap (list_any is_blank) t ∙ or_from (is_blank byte) false (paired_unblank byte sign s) refl

-- quoted and other tokens

abbrev is_quoted : Kind → Bool
is_quoted (Chars contents) = true
is_quoted (Quoted label) = true
is_quoted _ = false

abbrev quotes : ByteClass → Bool
quotes DoubleQuote = true
quotes SingleQuote = true
quotes _ = false

quoted_class : (class : ByteClass) (kind : Kind) → admits class kind ≡ true → is_quoted kind ≡ quotes class
quoted_class Letter (Word word) e = refl
quoted_class Letter (Wild pattern) e = refl
quoted_class Letter PathOf e = refl
quoted_class Digit (Number number) e = refl
quoted_class Minus (Number number) e = refl
quoted_class Minus (Symbol sign) e = refl
quoted_class Ampersand (Local local) e = refl
quoted_class DoubleQuote (Chars contents) e = refl
quoted_class SingleQuote (Quoted label) e = refl
quoted_class Other (Symbol sign) e = refl
quoted_class _ _ e = absurd (cc)

-- two tokens with the same first byte are both quoted, or neither
both_quoted : (text rest front back : List ℕ) (kind other : Kind) → text ++ rest ≡ front ++ back → IsToken text rest kind → IsToken front back other → is_quoted other ≡ is_quoted kind
both_quoted text rest front back kind other e s t =
    let b = begins_with text rest kind s in
    let d = begins_with front back other t in
    let firsts : d.first ≡ b.first =
    let both : d.first ∷ (d.others ++ back) ≡ b.first ∷ (b.others ++ rest) = sym (ap (λ (l : List ℕ). l ++ back) d.parts) ∙ sym e ∙ ap (λ (l : List ℕ). l ++ rest) b.parts in cc in
    quoted_class (class_of d.first) other d.class ∙ ap (λ (byte : ℕ). quotes (class_of byte)) firsts ∙ sym (quoted_class (class_of b.first) kind b.class)

-- a token that isn't quoted has no blank byte
plain_token : (text rest : List ℕ) (kind : Kind) → is_quoted kind ≡ false → IsToken text rest kind → list_any is_blank text ≡ false
plain_token text rest (Word word) q s = none_blank is_word_byte (unblank is_word_byte refl refl refl refl) text (identifier_run text s.0)
plain_token text rest (Wild pattern) q s = none_blank is_pattern_byte (unblank is_pattern_byte refl refl refl refl) text (pattern_run text s.0)
plain_token text rest PathOf q s = ap (list_any is_blank) s.0
plain_token text rest (Number number) q (digits, n, inl (e, v)) =
    ap (list_any is_blank) e ∙ none_blank is_ascii_digit (unblank is_ascii_digit refl refl refl refl) digits (run_from_AllDigits digits n.1)
plain_token text rest (Number number) q (digits, n, inr (e, v)) =
    ap (list_any is_blank) e ∙ none_blank is_ascii_digit (unblank is_ascii_digit refl refl refl refl) digits (run_from_AllDigits digits n.1)
plain_token text rest (Local local) q (digits, n, e, v) =
    ap (list_any is_blank) e ∙ none_blank is_ascii_digit (unblank is_ascii_digit refl refl refl refl) digits (run_from_AllDigits digits n.1)
plain_token text rest (Chars contents) q s = absurd (cc)
plain_token text rest (Quoted label) q s = absurd (cc)
plain_token text rest (Symbol sign) q s = ap (list_any is_blank) s ∙ sign_unblank sign (written sign)

-- the longest token

apart_first : (rest : List ℕ) → is_apart rest ≡ true → 0 < length rest → is_blank (get_or rest 0 0) ≡ true
apart_first [] e l = absurd (omega arith)
apart_first (byte ∷ bytes) e l = e

-- a token that isn't quoted, and apart from what follows
longest_plain : (text rest : List ℕ) (kind : Kind) → is_quoted kind ≡ false → IsToken text rest kind → is_apart rest ≡ true → IsLongest text rest
longest_plain text rest kind q s apart front back other e t = elim (cases_lt (length text) (length front)) [
  | inr above ↦ above
  | inl longer ↦ absurd (
      let some : 0 < length rest = omega (arith, ap length e, length-append text rest, length-append front back) in
      let behind : get_or (text ++ rest) (length text) 0 ≡ get_or rest 0 0 = start text rest in
      let inside : get_or (front ++ back) (length text) 0 ≡ get_or front (length text) 0 = get_or_append_left front back 0 (length text) longer in
      let same : get_or front (length text) 0 ≡ get_or rest 0 0 = sym inside ∙ sym (ap (λ (l : List ℕ). get_or l (length text) 0) e) ∙ behind in
      let blank : is_blank (get_or front (length text) 0) ≡ true = ap is_blank same ∙ apart_first rest apart some in
      let has : list_any is_blank front ≡ true = some_at is_blank front (length text) longer blank in
      let none : list_any is_blank front ≡ false = plain_token front back other (both_quoted text rest front back kind other e s t ∙ q) t in
      cc)
] where
  start : (text rest : List ℕ) → get_or (text ++ rest) (length text) 0 ≡ get_or rest 0 0
  start [] rest = refl
  start (byte ∷ text) rest = start text rest

-- quoted contents
same_size : (quote : ℕ) (text rest front back a b : List ℕ) → quote ≢ 92 → text ++ rest ≡ front ++ back → IsQuoted quote text a → IsQuoted quote front b → length front ≤ length text
same_size quote text rest front back a b plain e (raw, f, g) (raw', f', g') =
    let bytes = quote ∷ ((raw ++ quote ∷ []) ++ rest) in
    let parts : bytes ≡ text ++ rest = sym (ap (λ (l : List ℕ). l ++ rest) f) in
    let t = front_quoted quote bytes ((raw ++ quote ∷ []) ++ rest) text rest a refl parts (raw, f, g) in
    let u = front_quoted quote bytes ((raw ++ quote ∷ []) ++ rest) front back b refl (parts ∙ e) (raw', f', g') in
    let raws = same_front quote false u.raw t.raw back rest (contents_inside quote u.raw b plain u.contents) (contents_inside quote t.raw a plain t.contents) (sym u.parts ∙ t.parts) in
    omega (arith, ap length t.shape, ap length u.shape, length-append t.raw (quote ∷ []), length-append u.raw (quote ∷ []), ap length raws)

longest_text : (text rest contents : List ℕ) → IsQuoted 34 text contents → IsLongest text rest
longest_text text rest contents q front back other e t =
    let first : class_of (get_or (text ++ rest) 0 0) ≡ DoubleQuote = ap (λ (l : List ℕ). class_of (get_or (l ++ rest) 0 0)) q.1 in
    let (found, q', _) = text_kind front back other t (admitted (text ++ rest) front back other DoubleQuote first e t) in
    same_size 34 text rest front back contents found (λ w. omega arith) e q q'

longest_label : (text rest label : List ℕ) → IsQuoted 39 text label → IsLongest text rest
longest_label text rest label q front back other e t =
    let first : class_of (get_or (text ++ rest) 0 0) ≡ SingleQuote = ap (λ (l : List ℕ). class_of (get_or (l ++ rest) 0 0)) q.1 in
    let (found, q', _, _) = label_kind front back other t (admitted (text ++ rest) front back other SingleQuote first e t) in
    same_size 39 text rest front back label found (λ w. omega arith) e q q'

-- a `{` is no part of a longer symbol
longest_brace : (rest : List ℕ) → IsLongest (codes "{") rest
longest_brace rest front back other e t =
    let (sign, f, _) = other_kind front back other t (admitted (123 ∷ rest) front back other Other refl e t) in
    alone sign (written sign) f where
      alone : (sign : Sign) → Written sign → front ≡ sign_text sign → length front ≤ 1
      alone sign (one byte t s) f = omega (arith, ap length (f ∙ t))
      alone sign (two byte t s) f = absurd (
          let both : 123 ∷ rest ≡ byte ∷ 61 ∷ back = e ∙ ap (λ (l : List ℕ). l ++ back) (f ∙ t) in
          let first : byte ≡ 123 = cc in
          let wrong : None ≡ Some sign = ap paired (sym first) ∙ s in cc)

-- a written token

numeral : (number : ℕ) → number < 2 ^ 64 → IsNumeral 10 (decimal number) × (digits_value 10 (decimal number) ≡ number)
numeral number l = decimal_is_IsNumeral number l

unfit : (byte : ℕ) (test : ℕ → Bool) (other : ℕ) → test byte ≡ true → test other ≡ false → byte ≡ other → ⊥
unfit byte test other e f same = let passes : test other ≡ true = ap test (sym same) ∙ e in cc

pub is_token : (kind : Kind) (rest : List ℕ) → HasForm kind → MayFollow kind rest → IsToken (token_text kind) rest kind
is_token (Word word) rest form follow = (form.0, refl)
is_token (Wild pattern) rest form follow = (form.0, refl)
is_token PathOf rest form (inl apart) = (refl, ends rest apart) where
  ends : (rest : List ℕ) → is_apart rest ≡ true → begins is_pattern_byte rest ≡ false
  ends [] e = refl
  ends (byte ∷ bytes) e = blank_is is_pattern_byte false refl refl refl refl byte e
is_token PathOf rest form (inr brace) = absurd (cc)
is_token (Number (pos n)) rest form follow =
    let (n', v) = numeral n (omega (arith, form.sfits)) in (decimal n, n', inl (refl, ap pos (sym v)))
is_token (Number (negsuc n)) rest form follow =
    let (n', v) = numeral (suc n) (omega (arith, form.sfits)) in (decimal (suc n), n', inr (refl, ap (λ (m : ℕ). neg_ℤ (pos m)) (sym v)))
is_token (Local local) rest form follow = let (n, v) = numeral local (omega arith) in (decimal local, n, refl, sym v)
is_token (Chars contents) rest form follow = quoted-back 34 (omega arith) contents
is_token (Quoted label) rest form follow = (quoted-back 39 (omega arith) label, form.0)
is_token (Symbol sign) rest form follow = refl

pub is_longest : (kind : Kind) (rest : List ℕ) → HasForm kind → MayFollow kind rest → IsLongest (token_text kind) rest
is_longest (Chars contents) rest form follow = longest_text (in_quotes 34 contents) rest contents (quoted-back 34 (omega arith) contents)
is_longest (Quoted label) rest form follow = longest_label (in_quotes 39 label) rest label (quoted-back 39 (omega arith) label)
is_longest kind rest form (inr brace) = subst (λ (k : Kind). IsLongest (token_text k) rest) (sym brace) (longest_brace rest)
is_longest kind rest form (inl apart) = longest_plain (token_text kind) rest kind refl (is_token kind rest form (inl apart)) apart

abbrev pub first_token : (kind : Kind) (rest : List ℕ) → HasForm kind → MayFollow kind rest → IsFirst (token_text kind ++ rest) kind rest
first_token kind rest form follow = record {
  text = token_text kind;
  parts = refl;
  token = is_token kind rest form follow;
  longest = is_longest kind rest form follow;
}

-- it has no fault

whole : (kind : Kind) (rest : List ℕ) → MayFollow kind rest → IsWhole kind rest
whole (Number number) rest (inl apart) = no_fraction rest apart where
  no_fraction : (rest : List ℕ) → is_apart rest ≡ true → begins_fraction rest ≡ false
  no_fraction [] e = refl
  no_fraction (byte ∷ bytes) e =
      let other : eqb byte 46 ≡ false = blank_is (λ (b : ℕ). eqb b 46) false refl refl refl refl byte e in rw other refl
whole (Number number) rest (inr brace) = absurd (cc)
whole _ rest follow = tt

in_range : (kind : Kind) → HasForm kind → IsInRange kind
in_range (Number number) form = form
in_range (Local local) form = form
in_range _ form = tt

short : (kind : Kind) → HasForm kind → IsShort kind
short (Word word) form = form.1
short (Wild pattern) form = form.1
short (Chars contents) form = form
short (Quoted label) form = form.1
short _ form = tt

pub token_kept : (kind : Kind) (rest : List ℕ) → HasForm kind → MayFollow kind rest → (fault : LexFault) → Keeps fault kind rest
token_kept kind rest form follow = kept kind rest (whole kind rest follow) (in_range kind form) (short kind form)

-- it begins no gap

no_comment : (byte : ℕ) (bytes : List ℕ) → (byte ≡ 45 → ⊥) → begins_comment (byte ∷ bytes) ≡ false
no_comment byte [] other = refl
no_comment byte (next ∷ bytes) other = let dash : eqb byte 45 ≡ false = ne_eqb byte 45 other in rw dash refl

no_gap : (byte : ℕ) (bytes : List ℕ) → is_blank byte ≡ false → (byte ≡ 45 → ⊥) → begins_gap (byte ∷ bytes) ≡ false
no_gap byte bytes blank other = or_from (is_blank byte) (begins_comment (byte ∷ bytes)) blank (no_comment byte bytes other)

digits_open : (digits rest : List ℕ) → IsNumeral 10 digits → begins_gap (digits ++ rest) ≡ false
digits_open [] rest n = absurd (omega (arith, n.0))
digits_open (digit ∷ digits) rest n =
    let passes = digit_passes digit n.1.0 in
    no_gap digit (digits ++ rest) (unblank is_ascii_digit refl refl refl refl digit passes) (unfit digit is_ascii_digit 45 passes refl)

minus_open : (digits rest : List ℕ) → IsNumeral 10 digits → begins_gap (45 ∷ (digits ++ rest)) ≡ false
minus_open [] rest n = absurd (omega (arith, n.0))
minus_open (digit ∷ digits) rest n =
    let passes = digit_passes digit n.1.0 in
    let other : eqb digit 45 ≡ false = ne_eqb digit 45 (unfit digit is_ascii_digit 45 passes refl) in rw other refl

sign_open : (sign : Sign) (rest : List ℕ) → Written sign → begins_gap (sign_text sign ++ rest) ≡ false
sign_open sign rest (one byte t s) =
    ap (λ (l : List ℕ). begins_gap (l ++ rest)) t ∙ no_gap byte rest (single_unblank byte sign s) (single_dash byte sign s)
sign_open sign rest (two byte t s) =
    ap (λ (l : List ℕ). begins_gap (l ++ rest)) t ∙ or_from (is_blank byte) (eqb byte 45 && false) (paired_unblank byte sign s) (and_false (eqb byte 45)) where
      and_false : (b : Bool) → (b && false) ≡ false
      and_false true = refl
      and_false false = refl

pub token_open : (kind : Kind) (rest : List ℕ) → HasForm kind → begins_gap (token_text kind ++ rest) ≡ false
token_open (Word []) rest form = absurd form.0
token_open (Word (byte ∷ bytes)) rest form =
    no_gap byte (bytes ++ rest) (unblank is_word_start refl refl refl refl byte form.0.0) (unfit byte is_word_start 45 form.0.0 refl)
token_open (Wild []) rest form = absurd form.0
token_open (Wild (byte ∷ bytes)) rest form =
    no_gap byte (bytes ++ rest) (unblank is_pattern_start refl refl refl refl byte form.0.0) (unfit byte is_pattern_start 45 form.0.0 refl)
token_open PathOf rest form = refl
token_open (Number (pos n)) rest form = digits_open (decimal n) rest (numeral n (omega (arith, form.sfits))).0
token_open (Number (negsuc n)) rest form = minus_open (decimal (suc n)) rest (numeral (suc n) (omega (arith, form.sfits))).0
token_open (Local local) rest form = no_gap 38 (decimal local ++ rest) refl (λ e. omega arith)
token_open (Chars contents) rest form = no_gap 34 _ refl (λ e. omega arith)
token_open (Quoted label) rest form = no_gap 39 _ refl (λ e. omega arith)
token_open (Symbol sign) rest form = sign_open sign rest (written sign)

pub token_some : (kind : Kind) (rest : List ℕ) → HasForm kind → MayFollow kind rest → 0 < length (token_text kind)
token_some kind rest form follow = token_length (token_text kind) rest kind (is_token kind rest form follow)
