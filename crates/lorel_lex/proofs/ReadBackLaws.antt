-- Written tokens are read back.
use Rattle.std.proofs.Common.{◌≡◌, ℕ, ◌+◌, ◌-◌, ◌<◌, ◌≤◌, Bool, true, false, ◌&&◌, List, [], ◌∷◌, ◌++◌, length, get_or, take, map, nat_lt, eqb, refl, sym, ap, ap₂, ◌∙◌, subst, inl, inr, arith, suc, zero, append_assoc, append-nil, ltb-true}
use Rattle.std.specs.Prelude.{IsUtf8, pos, negsuc}
use Rattle.std.specs.List.{AllByRecursion, flat_map, list_all}
use Rattle.std.specs.Fmt.{decimal}
use Rattle.std.proofs.lemmas.Bool.{and_parts, cases_lt, ne_eqb}
use Rattle.std.proofs.lemmas.Fmt.{IsAscii-decimal}
use Rattle.std.proofs.lemmas.Grind.{flat_map-append}
use Rattle.std.proofs.lemmas.List.{length-append, take_at}
use Rattle.std.proofs.lemmas.List.Elements.{recursion_from_All}
use Rattle.std.proofs.lemmas.Str.{IsUtf8-append, IsUtf8-nil, IsUtf8-encode, IsUtf8-from_ascii, inside_one}
use Rattle.std.proofs.lemmas.Str.Ascii.{encode_ascii}
use lib.Utf8.{scalar, scalars, encode, encodes, low_scalar}
use Rattle.lore_base.specs.Quotes.{escape, in_quotes, IsQuoted}
use Rattle.lore_base.proofs.QuoteLaws.{quoted-back}
use Rattle.lorel_lex.specs.Types.{Token, Kind, Word, Wild, PathOf, Number, Local, Chars, Quoted, Symbol, Sign, LeftBrace, RightBrace, LeftParen, RightParen, Comma, Dot, Colon, Assign, Equal, SameAs, NotEqual, Less, LessEqual, Greater, GreaterEqual, PlusAssign, MinusAssign, Question, Star, Plus, Bar, Hash, At}
use Rattle.lorel_lex.specs.Gaps.{is_blank, IsGap, nothing, blank, IsBlank}
use Rattle.lorel_tokens.specs.Shapes.{sign_text}
use Rattle.lorel_tokens.specs.Forms.{HasForm}
use Rattle.lorel_lex.specs.Tokens.{IsNext, AreTokensFrom}
use Rattle.lorel_lex.specs.Writing.{token_text, MayFollow, IsUtf8Token, line_text, spaced, AreWritten, AreReadBack, IsLineReadBack, AreQuotesReadBack}
use Rattle.lorel_lex.proofs.QuotedLaws.{same_quoted}
use Rattle.lorel_lex.proofs.WritingLaws.{blank_is, first_token, token_kept, token_open, token_some}

-- tokens

blank_gap : (bytes : List ℕ) → list_all is_blank bytes ≡ true → IsGap bytes
blank_gap [] e = nothing
blank_gap (byte ∷ bytes) e = let both = and_parts (is_blank byte) (list_all is_blank bytes) e in blank byte bytes both.0 (blank_gap bytes both.1)

-- the token behind a gap
next_token : (at : ℕ) (gap rest bytes : List ℕ) (kind : Kind) → bytes ≡ gap ++ (token_text kind ++ rest) → list_all is_blank gap ≡ true → HasForm kind
    → MayFollow kind rest → IsNext at bytes (record { kind = kind; start = at + length gap; end = at + length gap + length (token_text kind) }) rest
next_token at gap rest bytes kind parts blanks form follow = record {
  gap = gap;
  place = token_text kind ++ rest;
  stands = record {
    parts = parts;
    dropped = blank_gap gap blanks;
    outside = token_open kind rest form;
    some = omega (arith, token_some kind rest form follow, length-append (token_text kind) rest);
  };
  first = first_token kind rest form follow;
  kept = token_kept kind rest form follow;
  starts = refl;
  ends = refl;
}

tokens_of : (at : ℕ) (bytes : List ℕ) (kinds : List Kind) → AllByRecursion HasForm kinds → AreWritten kinds bytes
    → (tokens : List Token) × AreTokensFrom at bytes tokens × (map (λ (token : Token). token.kind) tokens ≡ kinds)
tokens_of at bytes [] forms blanks =
    let none : IsBlank bytes = record { gap = bytes; last = []; parts = sym (append-nil bytes); dropped = blank_gap bytes blanks; ended = inl refl } in
    ([], none, refl)
tokens_of at bytes (kind ∷ kinds) forms (gap, rest, parts, blanks, follow, written) =
    let token : Token = record { kind = kind; start = at + length gap; end = at + length gap + length (token_text kind) } in
    let next : IsNext at bytes token rest = next_token at gap rest bytes kind parts blanks forms.0 follow in
    let (tokens, all, same) = tokens_of token.end rest kinds forms.1 written in
    (token ∷ tokens, (rest, next, all), ap (λ (l : List Kind). kind ∷ l) same)

-- UTF-8

low : ℕ → Bool
low byte = nat_lt byte 128

low_then : (byte : ℕ) (bytes : List ℕ) → byte < 128 → IsUtf8 bytes → IsUtf8 (byte ∷ bytes)
low_then byte bytes small u =
    IsUtf8-append (byte ∷ []) bytes (subst IsUtf8 (encode_ascii byte small) (IsUtf8-encode byte (low_scalar byte (omega arith)))) u

low_utf8 : (bytes : List ℕ) → list_all low bytes ≡ true → IsUtf8 bytes
unfolding low
low_utf8 [] e = IsUtf8-nil
low_utf8 (byte ∷ bytes) e = let both = and_parts (nat_lt byte 128) (list_all (λ (b : ℕ). nat_lt b 128) bytes) e in low_then byte bytes (ltb-true byte 128 both.0) (low_utf8 bytes both.1)

blank_utf8 : (bytes : List ℕ) → list_all is_blank bytes ≡ true → IsUtf8 bytes
unfolding low
blank_utf8 [] e = IsUtf8-nil
blank_utf8 (byte ∷ bytes) e =
    let both = and_parts (is_blank byte) (list_all is_blank bytes) e in
    low_then byte bytes (ltb-true byte 128 (blank_is low true refl refl refl refl byte both.0)) (blank_utf8 bytes both.1)

sign_utf8 : (sign : Sign) → IsUtf8 (sign_text sign)
unfolding low
sign_utf8 LeftBrace = low_utf8 _ refl
sign_utf8 RightBrace = low_utf8 _ refl
sign_utf8 LeftParen = low_utf8 _ refl
sign_utf8 RightParen = low_utf8 _ refl
sign_utf8 Comma = low_utf8 _ refl
sign_utf8 Dot = low_utf8 _ refl
sign_utf8 Colon = low_utf8 _ refl
sign_utf8 Assign = low_utf8 _ refl
sign_utf8 Equal = low_utf8 _ refl
sign_utf8 SameAs = low_utf8 _ refl
sign_utf8 NotEqual = low_utf8 _ refl
sign_utf8 Less = low_utf8 _ refl
sign_utf8 LessEqual = low_utf8 _ refl
sign_utf8 Greater = low_utf8 _ refl
sign_utf8 GreaterEqual = low_utf8 _ refl
sign_utf8 PlusAssign = low_utf8 _ refl
sign_utf8 MinusAssign = low_utf8 _ refl
sign_utf8 Question = low_utf8 _ refl
sign_utf8 Star = low_utf8 _ refl
sign_utf8 Plus = low_utf8 _ refl
sign_utf8 Bar = low_utf8 _ refl
sign_utf8 Hash = low_utf8 _ refl
sign_utf8 At = low_utf8 _ refl

-- the escapes of the bytes below a number are ASCII
Lows : ℕ → ℕ → Bool
Lows quote zero = true
Lows quote (suc n) = list_all low (escape quote n) && Lows quote n

low_below : (quote n : ℕ) → Lows quote n ≡ true → (byte : ℕ) → byte < n → list_all low (escape quote byte) ≡ true
unfolding Lows
low_below quote zero e byte l = absurd (omega arith)
low_below quote (suc n) e byte l =
    let both = and_parts (list_all low (escape quote n)) (Lows quote n) e in
    elim (cases_lt byte n) [
      | inl below ↦ low_below quote n both.1 byte below
      | inr above ↦ let same : n ≡ byte = omega arith in subst (λ (b : ℕ). list_all low (escape quote b) ≡ true) same both.0
    ]

-- wider bytes are written as they are
escape_high : (quote byte : ℕ) → quote < 128 → 128 ≤ byte → escape quote byte ≡ byte ∷ []
escape_high quote byte small high =
    let a : eqb byte quote ≡ false = ne_eqb byte quote (λ e. omega arith) in
    let b : eqb byte 92 ≡ false = ne_eqb byte 92 (λ e. omega arith) in
    let c : eqb byte 10 ≡ false = ne_eqb byte 10 (λ e. omega arith) in
    let d : eqb byte 13 ≡ false = ne_eqb byte 13 (λ e. omega arith) in
    let f : eqb byte 9 ≡ false = ne_eqb byte 9 (λ e. omega arith) in
    rw (a, b, c, d, f) refl

escapes_high : (quote : ℕ) → quote < 128 → (bytes : List ℕ) → ((i : ℕ) → i < length bytes → 128 ≤ get_or bytes i 0) → flat_map (escape quote) bytes ≡ bytes
escapes_high quote small [] high = refl
escapes_high quote small (byte ∷ bytes) high =
    ap₂ (λ (a b : List ℕ). a ++ b) (escape_high quote byte small (high 0 (omega arith))) (escapes_high quote small bytes (λ i l. high (suc i) (omega arith)))

char_utf8 : (quote : ℕ) → quote < 128 → Lows quote 128 ≡ true → (char : ℕ) → scalar char ≡ true → IsUtf8 (flat_map (escape quote) (encode char))
char_utf8 quote small lows char ok = elim (cases_lt char 128) [
  | inl below ↦
      let one : flat_map (escape quote) (encode char) ≡ escape quote char = ap (flat_map (escape quote)) (encode_ascii char below) ∙ append-nil (escape quote char) in
      subst IsUtf8 (sym one) (low_utf8 (escape quote char) (low_below quote 128 lows char below))
  | inr wide ↦
      let high : (i : ℕ) → i < length (encode char) → 128 ≤ get_or (encode char) i 0 = λ i l. elim (cases_lt (get_or (encode char) i 0) 128) [
        | inl under ↦ absurd (omega (arith, inside_one char [] (encode char) i (sym (append-nil (encode char))) l under))
        | inr over ↦ over
      ] in
      subst IsUtf8 (sym (escapes_high quote small (encode char) high)) (IsUtf8-encode char ok)
]

chars_utf8 : (quote : ℕ) → quote < 128 → Lows quote 128 ≡ true → (chars : List ℕ) → scalars chars ≡ true → IsUtf8 (flat_map (escape quote) (encodes chars))
chars_utf8 quote small lows [] e = IsUtf8-nil
chars_utf8 quote small lows (char ∷ chars) e =
    let both = and_parts (scalar char) (scalars chars) e in
    subst IsUtf8 (sym (flat_map-append (escape quote) (encode char) (encodes chars)))
    (IsUtf8-append _ _ (char_utf8 quote small lows char both.0) (chars_utf8 quote small lows chars both.1))

quoted_utf8 : (quote : ℕ) → quote < 128 → Lows quote 128 ≡ true → (text : List ℕ) → IsUtf8 text → IsUtf8 (in_quotes quote text)
quoted_utf8 quote small lows text u =
    let inner : IsUtf8 (flat_map (escape quote) text) = subst (λ (l : List ℕ). IsUtf8 (flat_map (escape quote) l)) u.1.1 (chars_utf8 quote small lows u.0 u.1.0) in
    low_then quote _ small (IsUtf8-append (flat_map (escape quote) text) (quote ∷ []) inner (low_then quote [] small IsUtf8-nil))

double_lows : Lows 34 128 ≡ true
unfolding Lows low
double_lows = refl

single_lows : Lows 39 128 ≡ true
unfolding Lows low
single_lows = refl

token_utf8 : (kind : Kind) → HasForm kind → IsUtf8Token kind → IsUtf8 (token_text kind)
unfolding low
token_utf8 (Word word) form u = u
token_utf8 (Wild pattern) form u = u
token_utf8 PathOf form u = low_utf8 _ refl
token_utf8 (Number (pos n)) form u = IsUtf8-from_ascii (decimal n) (IsAscii-decimal n (omega (arith, form.sfits)))
token_utf8 (Number (negsuc n)) form u =
    low_then 45 (decimal (suc n)) (omega arith) (IsUtf8-from_ascii (decimal (suc n)) (IsAscii-decimal (suc n) (omega (arith, form.sfits))))
token_utf8 (Local local) form u = low_then 38 (decimal local) (omega arith) (IsUtf8-from_ascii (decimal local) (IsAscii-decimal local (omega arith)))
token_utf8 (Chars contents) form u = quoted_utf8 34 (omega arith) double_lows contents u
token_utf8 (Quoted label) form u = quoted_utf8 39 (omega arith) single_lows label u
token_utf8 (Symbol sign) form u = sign_utf8 sign

written_utf8 : (bytes : List ℕ) (kinds : List Kind) → AllByRecursion HasForm kinds → AllByRecursion IsUtf8Token kinds → AreWritten kinds bytes → IsUtf8 bytes
written_utf8 bytes [] forms texts blanks = blank_utf8 bytes blanks
written_utf8 bytes (kind ∷ kinds) forms texts (gap, rest, parts, blanks, follow, written) =
    subst IsUtf8 (sym parts) (IsUtf8-append gap (token_text kind ++ rest) (blank_utf8 gap blanks)
    (IsUtf8-append (token_text kind) rest (token_utf8 kind forms.0 texts.0) (written_utf8 rest kinds forms.1 texts.1 written)))

pub read_back : AreReadBack
read_back kinds bytes forms texts written =
    let forms' = recursion_from_All HasForm kinds forms in
    let texts' = recursion_from_All IsUtf8Token kinds texts in
    let (tokens, all, same) = tokens_of 0 bytes kinds forms' written in
    (tokens, record { utf8 = written_utf8 bytes kinds forms' texts' written; all = all }, same)

-- a line

line_written : (gap : List ℕ) (kinds : List Kind) → list_all is_blank gap ≡ true → AreWritten kinds (gap ++ line_text kinds)
line_written gap [] blanks = subst (λ (l : List ℕ). list_all is_blank l ≡ true) (sym (append-nil gap)) blanks
line_written gap (kind ∷ []) blanks = (gap, [], ap (λ (l : List ℕ). gap ++ l) (sym (append-nil (token_text kind))), blanks, inl refl, refl)
line_written gap (kind ∷ next ∷ kinds) blanks =
    (gap, 32 ∷ line_text (next ∷ kinds), refl, blanks, inl refl, line_written (32 ∷ []) (next ∷ kinds) refl)

pub line_read_back : IsLineReadBack
line_read_back kinds forms texts = read_back kinds (line_text kinds) forms texts (line_written [] kinds refl)

-- with a space behind each token there is one space too many
pub spaced-line : (kind : Kind) (kinds : List Kind) → spaced (kind ∷ kinds) ≡ line_text (kind ∷ kinds) ++ 32 ∷ []
unfolding spaced
spaced-line kind [] = append-nil (token_text kind ++ 32 ∷ [])
spaced-line kind (next ∷ kinds) =
    ap (λ (l : List ℕ). (token_text kind ++ 32 ∷ []) ++ l) (spaced-line next kinds)
    ∙ append_assoc (token_text kind) (32 ∷ []) (line_text (next ∷ kinds) ++ 32 ∷ [])
    ∙ sym (append_assoc (token_text kind) (32 ∷ line_text (next ∷ kinds)) (32 ∷ []))

-- what is written with a space behind each token is a line and a last space
pub line_of_spaced : (kinds : List Kind) (bytes : List ℕ) → spaced kinds ≡ bytes ++ spaced [] → take (length bytes - 1) bytes ≡ line_text kinds
unfolding spaced
line_of_spaced [] bytes e = let none : bytes ≡ [] = sym (append-nil bytes) ∙ sym e in ap (λ (l : List ℕ). take (length l - 1) l) none
line_of_spaced (kind ∷ kinds) bytes e =
    let line = line_text (kind ∷ kinds) in
    let same : bytes ≡ line_text (kind ∷ kinds) ++ 32 ∷ [] = sym (append-nil bytes) ∙ sym e ∙ spaced-line kind kinds in
    let size : length (line_text (kind ∷ kinds)) ≡ length bytes - 1 = omega (arith, ap length same, length-append (line_text (kind ∷ kinds)) (32 ∷ [])) in
    ap (take (length bytes - 1)) same ∙ take_at (line_text (kind ∷ kinds)) (32 ∷ []) (length bytes - 1) size

-- quotes

pub quotes_read_back : AreQuotesReadBack
quotes_read_back quote text other low = (
  λ q. same_quoted quote (in_quotes quote text) other text q (quoted-back quote low text),
  λ same. subst (λ (t : List ℕ). IsQuoted quote (in_quotes quote text) t) (sym same) (quoted-back quote low text),
)
