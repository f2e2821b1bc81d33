-- That each chunk has an outcome.
use Rattle.std.proofs.Common.{◌≡◌, ◌≢◌, ℕ, ◌+◌, ◌^◌, ◌<◌, ◌≤◌, true, false, List, [], ◌∷◌, length, get_or, take, drop, Option, Some, None, Ok, Err, zero, suc, refl, sym, ap, ◌∙◌, subst, inl, inr, ◌⊎◌, arith}
use Rattle.std.specs.Prelude.{ℤ, FitsSigned}
use Rattle.std.specs.Int.{w64}
use Rattle.std.specs.Int.Signed.{mag}
use Rattle.std.specs.Str.{is_utf8}
use Rattle.std.proofs.lemmas.Str.{IsUtf8-from_is_utf8, is_utf8-from_IsUtf8}
use Rattle.std.proofs.lemmas.Bool.{cases_Bool, cases_lt, cases_eq, or_from}
use Rattle.std.proofs.lemmas.List.{take_all, drop_more, length-drop, append-nil}
use Rattle.lorel_lex.specs.Types.{WORD_BYTES, TEXT_BYTES, Token, Kind, Word, Wild, Number, Local, Chars, Quoted, LexFault, BadToken, RealRefused, NumberRange, TextTooLong}
use Rattle.lorel_lex.specs.Gaps.{is_blank, IsGap, nothing, IsBlank, begins_comment, begins_gap}
use Rattle.lorel_lex.specs.inside.Skipping.{FindsLine, SkipsGap}
use Rattle.lorel_lex.specs.Tokens.{begins_fraction, IsWhole, IsInRange, IsShort, Keeps, IsFaultAt, IsNext, AreTokensFrom, IsFaultBehind, HasSomeOutcome}
use Rattle.lorel_lex.specs.inside.Lexing.{IsShape}
use Rattle.lorel_lex.proofs.GapLaws.{IsGap-blank, IsGap-comment, IsBlank-comment}
use Rattle.lorel_lex.proofs.FaultLaws.{kept, reads_real, reads_range, reads_long}
use Rattle.lorel_lex.proofs.TokenLaws.{a_place, next_found, next_shorter}
use Rattle.lorel_lex.proofs.ShapeLaws.{has_shape}

-- a gap

a_line : (bytes : List ℕ) → (found : Option ℕ) × FindsLine bytes found
a_line [] = (None, tt)
a_line (byte ∷ bytes) = elim (cases_eq byte 10) [
  | inl ends ↦ (Some 0, record { within = omega arith; before = tt; ended = ends })
  | inr other ↦ behind (a_line bytes) other
] where
  behind : (found : Option ℕ) × FindsLine bytes found → byte ≢ 10 → (found : Option ℕ) × FindsLine (byte ∷ bytes) found
  behind (None, line) other = (None, (other, line))
  behind (Some at, line) other = (Some (suc at), record { within = omega (arith, line.within); before = (other, line.before); ended = line.ended })

gap_ends : (bytes : List ℕ) → IsBlank bytes → SkipsGap bytes (length bytes)
gap_ends bytes blank = record {
  within = omega arith;
  dropped = λ l. absurd (omega arith);
  outside = λ l. absurd (omega arith);
  blank = λ e. blank;
}

gap_stops : (bytes : List ℕ) (at : ℕ) → at < length bytes → IsGap (take at bytes) → is_blank (get_or bytes at 0) ≡ false → begins_comment (drop at bytes) ≡ false → SkipsGap bytes at
gap_stops bytes at l g plain other =
    let parts : drop at bytes ≡ get_or bytes at 0 ∷ drop (at + 1) bytes = drop_more bytes at 0 l in
    let other' : begins_comment (get_or bytes at 0 ∷ drop (at + 1) bytes) ≡ false = ap begins_comment (sym parts) ∙ other in
    record {
      within = omega arith;
      dropped = λ more. g;
      outside = λ more. ap begins_gap parts ∙ or_from (is_blank (get_or bytes at 0)) (begins_comment (get_or bytes at 0 ∷ drop (at + 1) bytes)) plain other';
      blank = λ e. absurd (omega arith);
    }

all_gap : (bytes : List ℕ) (at : ℕ) → length bytes ≤ at → IsGap (take at bytes) → IsBlank bytes
all_gap bytes at l g = record { gap = bytes; last = []; parts = sym (append-nil bytes); dropped = subst IsGap (take_all at bytes l) g; ended = inl refl }

-- behind a comment
comment_from : (bytes : List ℕ) (at : ℕ) → at ≤ length bytes → IsGap (take at bytes) → begins_comment (drop at bytes) ≡ true → (found : Option ℕ) × FindsLine (drop at bytes) found
    → ((next : ℕ) → at < next → next ≤ length bytes → IsGap (take next bytes) → (len : ℕ) × SkipsGap bytes len) → (len : ℕ) × SkipsGap bytes len
comment_from bytes at within g dashes (None, line) more = (length bytes, gap_ends bytes (IsBlank-comment bytes (drop at bytes) at refl g dashes line))
comment_from bytes at within g dashes (Some len, line) more =
    more (at + (len + 1)) (omega arith) (omega (arith, line.within, length-drop at bytes)) (IsGap-comment bytes (drop at bytes) at len refl g dashes line)

gap_from : (n : ℕ) (bytes : List ℕ) (at : ℕ) → length bytes ≤ at + n → at ≤ length bytes → IsGap (take at bytes) → (len : ℕ) × SkipsGap bytes len
gap_from zero bytes at left within g = (length bytes, gap_ends bytes (all_gap bytes at (omega arith) g))
gap_from (suc n) bytes at left within g = elim (cases_lt at (length bytes)) [
  | inr above ↦ (length bytes, gap_ends bytes (all_gap bytes at above g))
  | inl below ↦ elim (cases_Bool (is_blank (get_or bytes at 0))) [
    | inl blank ↦ gap_from n bytes (at + 1) (omega arith) (omega arith) (IsGap-blank bytes at below g blank)
    | inr plain ↦ elim (cases_Bool (begins_comment (drop at bytes))) [
      | inl dashes ↦ comment_from bytes at within g dashes (a_line (drop at bytes)) (λ next later reach h. gap_from n bytes next (omega arith) reach h)
      | inr other ↦ (at, gap_stops bytes at below g plain other)
    ]
  ]
]

a_gap : (bytes : List ℕ) → (len : ℕ) × SkipsGap bytes len
a_gap bytes = gap_from (length bytes) bytes 0 (omega arith) (omega arith) nothing

-- a token with its faults

fits : (number : ℤ) → FitsSigned w64 number ⊎ (FitsSigned w64 number → ⊥)
fits number = elim (cases_lt (mag number) (2 ^ 63)) [
  | inl below ↦ inl (record { sfits = below })
  | inr above ↦ inr (λ f. omega (arith, f.sfits))
]

at_most : (len limit : ℕ) → (len ≤ limit) ⊎ (len ≤ limit → ⊥)
at_most len limit = elim (cases_lt limit len) [ inl above ↦ inr (λ below. omega arith) | inr below ↦ inl below ]

is_whole : (kind : Kind) (rest : List ℕ) → IsWhole kind rest ⊎ (IsWhole kind rest → ⊥)
is_whole (Number number) rest = elim (cases_Bool (begins_fraction rest)) [ inl fraction ↦ inr (λ whole. let wrong : true ≡ false = sym fraction ∙ whole in cc) | inr whole ↦ inl whole ]
is_whole _ rest = inl tt

is_in_range : (kind : Kind) → IsInRange kind ⊎ (IsInRange kind → ⊥)
is_in_range (Number number) = fits number
is_in_range (Local local) = elim (cases_lt local (2 ^ 32)) [ inl below ↦ inl below | inr above ↦ inr (λ below. omega arith) ]
is_in_range _ = inl tt

is_short : (kind : Kind) → IsShort kind ⊎ (IsShort kind → ⊥)
is_short (Word word) = at_most (length word) WORD_BYTES
is_short (Wild pattern) = at_most (length pattern) WORD_BYTES
is_short (Chars contents) = at_most (length contents) TEXT_BYTES
is_short (Quoted label) = at_most (length label) WORD_BYTES
is_short _ = inl tt

-- what stands at a place: a token without a fault, or a fault
abbrev Stands : List ℕ → Type 0
Stands place = ((kind : Kind) × (len : ℕ) × IsShape place kind len × ((fault : LexFault) → Keeps fault kind (drop len place))) ⊎ ((fault : LexFault) × IsFaultAt fault place)

settled : (place : List ℕ) (kind : Kind) (len : ℕ) → IsShape place kind len → Stands place
settled place kind len shape = elim (is_whole kind (drop len place)) [
  | inr broken ↦ inr (RealRefused, reads_real place kind len shape broken (λ e. cc))
  | inl whole ↦ elim (is_in_range kind) [
    | inr broken ↦ inr (NumberRange, reads_range place kind len shape whole broken (λ e. cc))
    | inl range ↦ elim (is_short kind) [
      | inr broken ↦ inr (TextTooLong, reads_long place kind len shape whole range broken (λ e. cc))
      | inl short ↦ inl (kind, len, shape, kept kind (drop len place) whole range short)
    ]
  ]
]

stands : (place : List ℕ) → 0 < length place → Stands place
stands place some = elim (has_shape place some) [
  | inl (kind, len, shape) ↦ settled place kind len shape
  | inr none ↦ inr (BadToken, inl (refl, none))
]

-- all tokens, or those before the first fault

abbrev Read : ℕ → List ℕ → Type 0
Read at bytes = ((tokens : List Token) × AreTokensFrom at bytes tokens) ⊎ ((tokens : List Token) × (fault : LexFault) × IsFaultBehind at bytes tokens fault)

read_token : (at : ℕ) (bytes rest : List ℕ) (token : Token) → IsNext at bytes token rest → Read token.end rest → Read at bytes
read_token at bytes rest token n (inl (tokens, f)) = inl (token ∷ tokens, (rest, n, f))
read_token at bytes rest token n (inr (tokens, fault, f)) = inr (token ∷ tokens, fault, (rest, n, f))

read_behind : (at : ℕ) (bytes : List ℕ) (gap : ℕ) → SkipsGap bytes gap → ((end : ℕ) (rest : List ℕ) → length rest < length bytes → Read end rest) → Read at bytes
read_behind at bytes gap skips more = elim (cases_lt gap (length bytes)) [
  | inr above ↦ inl ([], skips.blank (omega (arith, skips.within)))
  | inl below ↦ elim (stands (drop gap bytes) (omega (arith, length-drop gap bytes))) [
    | inl (kind, len, shape, keeps) ↦
        let token : Token = record { kind = kind; start = at + gap; end = at + gap + len } in
        let rest = drop len (drop gap bytes) in
        let next : IsNext at bytes token (drop len (drop gap bytes)) = next_found at bytes (drop gap bytes) gap len kind skips below refl shape keeps in
        read_token at bytes rest token next (more token.end rest (next_shorter at bytes rest token next))
    | inr (fault, f) ↦ inr ([], fault, (take gap bytes, drop gap bytes, a_place bytes (drop gap bytes) gap skips below refl, f))
  ]
]

read_from : (n at : ℕ) (bytes : List ℕ) → length bytes ≤ n → Read at bytes
read_from zero at bytes left = inl ([], all_gap bytes 0 left nothing)
read_from (suc n) at bytes left = let (gap, skips) = a_gap bytes in read_behind at bytes gap skips (λ end rest shorter. read_from n end rest (omega arith))

pub some_outcome : HasSomeOutcome
some_outcome chunk = elim (cases_Bool (is_utf8 chunk)) [
  | inl utf8 ↦ elim (read_from (length chunk) 0 chunk (omega arith)) [
    | inl (tokens, f) ↦ (Ok tokens, record { utf8 = IsUtf8-from_is_utf8 chunk utf8; all = f })
    | inr (tokens, fault, f) ↦ (Err fault, inr (IsUtf8-from_is_utf8 chunk utf8, tokens, f))
  ]
  | inr binary ↦ (Err BadToken, inl (refl, λ utf8. let wrong : false ≡ true = sym binary ∙ is_utf8-from_IsUtf8 chunk utf8 in cc))
]
