-- The identifier, the pattern or `path-of` at the front.
use Rattle.std.proofs.Common.{Err, ◌≡◌, ℕ, ◌<◌, ◌≤◌, Bool, true, false, cond, List, [], ◌∷◌, ◌++◌, length, get_or, take, drop, zero, suc, refl, sym, ap, ◌∙◌, subst, inl, inr, ◌⊎◌, arith, eqb, eqb-true, eq-eqb}
use Rattle.std.specs.Prelude.{codes, not, ◌||◌}
use Rattle.std.specs.List.{list_all, list_any, starts_with}
use Rattle.std.specs.Char.{is_ascii_digit}
use Rattle.std.proofs.lemmas.Bool.{and_parts, and_from, or_parts, or_left, or_right, or_cases, cases_Bool, cases_lt, not-true, not_from_false}
use Rattle.std.proofs.lemmas.Bool.Decides.{Decides-eqb}
use Rattle.std.proofs.lemmas.Slice.Eq.{starts_is}
use Rattle.std.proofs.lemmas.List.{length-take-le, length-append, get_or_append_left, get_or-take, take_at, drop_at, drop_all, drop_more}
use Rattle.lore_base.specs.Names.{is_word_start, is_word_byte, IsIdentifier}
use Rattle.lorel_lex.specs.Types.{Kind, Word, Wild, PathOf, Letter, Other, TextTooLong, WORD_BYTES}
use Rattle.lorel_tokens.specs.Shapes.{is_pattern_start, is_pattern_byte, IsPattern, begins, IsToken}
use Rattle.lorel_lex.specs.inside.Lexing.{class_of, IsShape, ReadsFirst, EndsRun, begins_path_of}
use Rattle.lorel_lex.proofs.RunLaws.{list_all-get_or, list_all-map, none_among, run_most, run_some}
use Rattle.lorel_lex.proofs.ClassLaws.{admits, admitted, class_says}
use Rattle.lorel_lex.proofs.FaultLaws.{shape, reads_long}

-- what the bytes of a word stand for
abbrev pub word_kind : List ℕ → Kind
word_kind text = cond (list_any (λ (byte : ℕ). eqb byte 45) text) PathOf (cond (list_any (λ (byte : ℕ). eqb byte 37) text) (Wild text) (Word text))

pub identifier_run : (text : List ℕ) → IsIdentifier text → list_all is_word_byte text ≡ true
identifier_run [] i = absurd i
identifier_run (byte ∷ bytes) i = and_from (is_word_byte byte) (list_all is_word_byte bytes) (or_left (is_word_start byte) (is_ascii_digit byte) i.0) i.1

start_in_pattern : (byte : ℕ) → is_pattern_start byte ≡ true → is_pattern_byte byte ≡ true
start_in_pattern byte e = elim (or_cases (is_word_start byte) (eqb byte 37) e) [
  | inl word ↦ or_left (is_word_byte byte) (eqb byte 37) (or_left (is_word_start byte) (is_ascii_digit byte) word)
  | inr percent ↦ let is : byte ≡ 37 = eqb-true byte 37 percent in rw is refl
]

word_in_pattern : (byte : ℕ) → is_word_byte byte ≡ true → is_pattern_byte byte ≡ true
word_in_pattern byte e = or_left (is_word_byte byte) (eqb byte 37) e

pub pattern_run : (text : List ℕ) → IsPattern text → list_all is_pattern_byte text ≡ true
pattern_run [] i = absurd i
pattern_run (byte ∷ bytes) i = and_from (is_pattern_byte byte) (list_all is_pattern_byte bytes) (start_in_pattern byte i.0) i.1

-- an identifier or a pattern has no other bytes than those of a pattern
pub letter_front : (front back : List ℕ) (kind : Kind) → IsToken front back kind → admits Letter kind ≡ true
    → ((list_all is_pattern_byte front ≡ true) × (kind ≡ word_kind front)) ⊎ ((front ≡ codes "path-of") × (begins is_pattern_byte back ≡ false) × (kind ≡ PathOf))
letter_front front back (Word word) s e =
    let bytes = identifier_run front s.0 in
    let all : list_all is_pattern_byte front ≡ true = list_all-map is_word_byte is_pattern_byte front word_in_pattern bytes in
    let minus = none_among is_word_byte front 45 refl bytes in
    let percent = none_among is_word_byte front 37 refl bytes in
    inl (all, ap Word s.1 ∙ (rw (minus, percent) refl))
letter_front front back (Wild pattern) s e =
    let all = pattern_run front s.0 in
    let minus = none_among is_pattern_byte front 45 refl all in
    let percent = some_percent front s.0 in
    inl (all, ap Wild s.1 ∙ (rw (minus, percent) refl)) where
      some_percent : (text : List ℕ) → IsPattern text → list_any (λ (byte : ℕ). eqb byte 37) text ≡ true
      some_percent [] i = absurd i
      some_percent (byte ∷ bytes) i = i.2
letter_front front back PathOf s e = inr (s.0, s.1, refl)
letter_front front back _ s e = absurd (cc)

-- the bytes of a run with no digit first are a word
pub word_token : (text rest : List ℕ) → list_all is_pattern_byte text ≡ true → 0 < length text → is_pattern_start (get_or text 0 0) ≡ true → IsToken text rest (word_kind text)
word_token [] rest all some start = absurd (omega arith)
word_token (byte ∷ bytes) rest all some start =
    let text = byte ∷ bytes in
    let both = and_parts (is_pattern_byte byte) (list_all is_pattern_byte bytes) all in
    let minus : list_any (λ (b : ℕ). eqb b 45) (byte ∷ bytes) ≡ false = none_among is_pattern_byte (byte ∷ bytes) 45 refl all in
    elim (cases_Bool (list_any (λ (b : ℕ). eqb b 37) (byte ∷ bytes))) [
      | inl percent ↦
          let kinds : Wild (byte ∷ bytes) ≡ word_kind (byte ∷ bytes) = rw (minus, percent) refl in
          subst (IsToken (byte ∷ bytes) rest) kinds ((start, both.1, percent), refl)
      | inr none ↦
          let kinds : Word (byte ∷ bytes) ≡ word_kind (byte ∷ bytes) = rw (minus, none) refl in
          let parts = or_parts (eqb byte 37) (list_any (λ (b : ℕ). eqb b 37) bytes) none in
          let first : is_word_start byte ≡ true = plain_start byte start parts.0 in
          let others : list_all is_word_byte bytes ≡ true = plain_run bytes both.1 parts.1 in
          subst (IsToken (byte ∷ bytes) rest) kinds ((first, others), refl)
    ] where
      plain_start : (b : ℕ) → is_pattern_start b ≡ true → eqb b 37 ≡ false → is_word_start b ≡ true
      plain_start b e f = elim (or_cases (is_word_start b) (eqb b 37) e) [ inl word ↦ word | inr percent ↦ absurd (cc) ]

      plain_byte : (b : ℕ) → is_pattern_byte b ≡ true → eqb b 37 ≡ false → is_word_byte b ≡ true
      plain_byte b e f = elim (or_cases (is_word_byte b) (eqb b 37) e) [ inl word ↦ word | inr percent ↦ absurd (cc) ]

      plain_run : (text : List ℕ) → list_all is_pattern_byte text ≡ true → list_any (λ (b : ℕ). eqb b 37) text ≡ false → list_all is_word_byte text ≡ true
      plain_run [] e f = refl
      plain_run (b ∷ text) e f =
          let both = and_parts (is_pattern_byte b) (list_all is_pattern_byte text) e in
          let parts = or_parts (eqb b 37) (list_any (λ (c : ℕ). eqb c 37) text) f in
          and_from (is_word_byte b) (list_all is_word_byte text) (plain_byte b both.0 parts.0) (plain_run text both.1 parts.1)

-- a byte at the front of the class begins a word
letter_some : (bytes : List ℕ) → class_of (get_or bytes 0 0) ≡ Letter → (0 < length bytes) × (is_pattern_start (get_or bytes 0 0) ≡ true)
letter_some [] e = absurd (let other : class_of 0 ≡ Other = refl in let same : Letter ≡ Other = sym e ∙ other in cc)
letter_some (byte ∷ bytes) e = (omega arith, class_says byte Letter e)

pub word_some : (bytes : List ℕ) (len : ℕ) → class_of (get_or bytes 0 0) ≡ Letter → EndsRun is_pattern_byte bytes len → 0 < len
word_some bytes len class run =
    let (some, start) = letter_some bytes class in run_some is_pattern_byte bytes len run some (start_in_pattern (get_or bytes 0 0) start)

-- `path-of` at the front

path_of_parts : (bytes : List ℕ) → begins_path_of bytes ≡ true → (bytes ≡ codes "path-of" ++ drop 7 bytes) × (begins is_pattern_byte (drop 7 bytes) ≡ false)
path_of_parts bytes e =
    let both = and_parts (starts_with (λ (a b : ℕ). eqb a b) bytes (codes "path-of")) (not (begins is_pattern_byte (drop 7 bytes))) e in
    ((starts_is Decides-eqb bytes (codes "path-of") (starts_with (λ (a b : ℕ). eqb a b) bytes (codes "path-of")) refl).0 both.0, not-true (begins is_pattern_byte (drop 7 bytes)) both.1)

path_of_begins : (bytes back : List ℕ) → bytes ≡ codes "path-of" ++ back → begins is_pattern_byte back ≡ false → begins_path_of bytes ≡ true
path_of_begins bytes back e apart =
    let behind : drop 7 bytes ≡ back = ap (drop 7) e ∙ drop_at (codes "path-of") back 7 refl in
    let ends : begins is_pattern_byte (drop 7 bytes) ≡ false = ap (begins is_pattern_byte) behind ∙ apart in
    and_from (starts_with (λ (a b : ℕ). eqb a b) bytes (codes "path-of")) (not (begins is_pattern_byte (drop 7 bytes)))
    ((starts_is Decides-eqb bytes (codes "path-of") (starts_with (λ (a b : ℕ). eqb a b) bytes (codes "path-of")) refl).1 back e)
    (not_from_false (begins is_pattern_byte (drop 7 bytes)) ends)

-- of bytes that begin with `path-of` no more than four pass
path_most : (bytes front back : List ℕ) → bytes ≡ codes "path-of" ++ drop 7 bytes → bytes ≡ front ++ back → list_all is_pattern_byte front ≡ true → length front ≤ 7
path_most bytes front back path e all = elim (cases_lt 4 (length front)) [
  | inl below ↦ absurd (
      let minus : get_or bytes 4 0 ≡ 45 = ap (λ (l : List ℕ). get_or l 4 0) path in
      let same : get_or bytes 4 0 ≡ get_or front 4 0 = ap (λ (l : List ℕ). get_or l 4 0) e ∙ get_or_append_left front back 0 4 below in
      let passes : is_pattern_byte (get_or front 4 0) ≡ true = list_all-get_or is_pattern_byte front 4 all below in
      let byte : get_or front 4 0 ≡ 45 = sym same ∙ minus in
      let wrong : is_pattern_byte 45 ≡ true = ap is_pattern_byte (sym byte) ∙ passes in cc)
  | inr above ↦ omega arith
]

pub path_of_shape : (bytes : List ℕ) → class_of (get_or bytes 0 0) ≡ Letter → begins_path_of bytes ≡ true → IsShape bytes PathOf 7
path_of_shape bytes class e =
    let (path, apart) = path_of_parts bytes e in
    let front : take 7 bytes ≡ codes "path-of" = ap (take 7) path ∙ take_at (codes "path-of") (drop 7 bytes) 7 refl in
    shape bytes PathOf 7 (omega (arith, ap length path, length-append (codes "path-of") (drop 7 bytes))) (front, apart) (λ text back kind parts s.
    elim (letter_front text back kind s (admitted bytes text back kind Letter class parts s)) [
      | inl (all, _) ↦ path_most bytes text back path parts all
      | inr (is, _, _) ↦ omega (arith, ap length is)
    ])

-- the run at the front, where it isn't `path-of`
pub word_shape : (bytes : List ℕ) (len : ℕ) → class_of (get_or bytes 0 0) ≡ Letter → begins_path_of bytes ≡ false → EndsRun is_pattern_byte bytes len
    → IsShape bytes (word_kind (take len bytes)) len
word_shape bytes len class e run =
    let (some, start) = letter_some bytes class in
    let more = run_some is_pattern_byte bytes len run some (start_in_pattern (get_or bytes 0 0) start) in
    let size : length (take len bytes) ≡ len = length-take-le len bytes run.within in
    let first : get_or (take len bytes) 0 0 ≡ get_or bytes 0 0 = get_or-take len bytes 0 0 more in
    let start' : is_pattern_start (get_or (take len bytes) 0 0) ≡ true = ap is_pattern_start first ∙ start in
    shape bytes (word_kind (take len bytes)) len run.within (word_token (take len bytes) (drop len bytes) run.passed (omega arith) start') (λ text back kind parts s.
    elim (letter_front text back kind s (admitted bytes text back kind Letter class parts s)) [
      | inl (all, _) ↦ run_most is_pattern_byte bytes text back len run parts all
      | inr (is, apart, _) ↦ absurd (let path : begins_path_of bytes ≡ true = path_of_begins bytes back (parts ∙ ap (λ (l : List ℕ). l ++ back) is) apart in cc)
    ])

-- a run of an identifier's bytes that no byte of a pattern follows
pub identifier_letters : (bytes : List ℕ) (len : ℕ) → EndsRun is_word_byte bytes len → begins is_pattern_byte (drop len bytes) ≡ false
    → EndsRun is_pattern_byte bytes len × (list_any (λ (b : ℕ). eqb b 37) (take len bytes) ≡ false)
identifier_letters bytes len run ends = (
  record {
    within = run.within;
    passed = list_all-map is_word_byte is_pattern_byte (take len bytes) word_in_pattern run.passed;
    stops = λ l. sym (ap (begins is_pattern_byte) (drop_more bytes len 0 l)) ∙ ends;
  },
  none_among is_word_byte (take len bytes) 37 refl run.passed,
)

any_at : (bytes : List ℕ) (i byte : ℕ) → i < length bytes → get_or bytes i 0 ≡ byte → list_any (λ (b : ℕ). eqb b byte) bytes ≡ true
any_at [] i byte l e = absurd (omega arith)
any_at (first ∷ bytes) zero byte l e = or_left (eqb first byte) (list_any (λ (b : ℕ). eqb b byte) bytes) (eq-eqb first byte e)
any_at (first ∷ bytes) (suc i) byte l e = or_right (eqb first byte) (list_any (λ (b : ℕ). eqb b byte) bytes) (any_at bytes i byte (omega arith) e)

begins_some : (test : ℕ → Bool) (bytes : List ℕ) (at : ℕ) → begins test (drop at bytes) ≡ true → at < length bytes
begins_some test bytes at e = elim (cases_lt at (length bytes)) [
  | inl below ↦ below
  | inr above ↦ absurd (let none : begins test (drop at bytes) ≡ false = ap (begins test) (drop_all at bytes above) in cc)
]

-- a run of an identifier's bytes that a byte of a pattern follows: this is a `%`
pub pattern_letters : (bytes : List ℕ) (word len : ℕ) → EndsRun is_word_byte bytes word → begins is_pattern_byte (drop word bytes) ≡ true
    → EndsRun is_pattern_byte bytes len → list_any (λ (b : ℕ). eqb b 37) (take len bytes) ≡ true
pattern_letters bytes word len run more all =
    let within : word < length bytes = begins_some is_pattern_byte bytes word more in
    let passes : is_pattern_byte (get_or bytes word 0) ≡ true = sym (ap (begins is_pattern_byte) (drop_more bytes word 0 within)) ∙ more in
    let stops : is_word_byte (get_or bytes word 0) ≡ false = run.stops within in
    let percent : get_or bytes word 0 ≡ 37 = is_percent passes stops in
    let longer : word < len = goes_further passes within in
    let size : length (take len bytes) ≡ len = length-take-le len bytes all.within in
    any_at (take len bytes) word 37 (omega arith) (get_or-take len bytes word 0 longer ∙ percent) where
      is_percent : {byte : ℕ} → is_pattern_byte byte ≡ true → is_word_byte byte ≡ false → byte ≡ 37
      is_percent {byte} e f = elim (or_cases (is_word_byte byte) (eqb byte 37) e) [ inl word ↦ absurd (cc) | inr percent ↦ eqb-true byte 37 percent ]

      goes_further : is_pattern_byte (get_or bytes word 0) ≡ true → word < length bytes → word < len
      goes_further passes within = elim (cases_lt word len) [
        | inl below ↦ below
        | inr above ↦ absurd (
            let stops : is_pattern_byte (get_or bytes len 0) ≡ false = all.stops (omega arith) in
            let goes : is_pattern_byte (get_or bytes len 0) ≡ true = elim (cases_lt len word) [
              | inl before ↦
                  let size : length (take word bytes) ≡ word = length-take-le word bytes run.within in
                  word_in_pattern (get_or bytes len 0) (ap is_word_byte (sym (get_or-take word bytes len 0 before)) ∙ list_all-get_or is_word_byte (take word bytes) len run.passed (omega arith))
              | inr at ↦ let same : len ≡ word = omega arith in ap (λ (n : ℕ). is_pattern_byte (get_or bytes n 0)) same ∙ passes
            ] in cc)
      ]

-- a byte of a pattern behind a run of an identifier's bytes is a `%`
pub run_goes_on : (bytes : List ℕ) (len : ℕ) (is : Bool) → EndsRun is_word_byte bytes len → begins (λ (b : ℕ). eqb b 37) (drop len bytes) ≡ is
    → begins is_pattern_byte (drop len bytes) ≡ is
run_goes_on bytes len is run e = elim (cases_lt len (length bytes)) [
  | inl below ↦
      let parts = drop_more bytes len 0 below in
      let stops : is_word_byte (get_or bytes len 0) ≡ false = run.stops below in
      let percent : eqb (get_or bytes len 0) 37 ≡ is = sym (ap (begins (λ (b : ℕ). eqb b 37)) parts) ∙ e in
      let both : is_pattern_byte (get_or bytes len 0) ≡ eqb (get_or bytes len 0) 37 = or_false stops in
      ap (begins is_pattern_byte) parts ∙ both ∙ percent
  | inr above ↦
      let none = drop_all len bytes above in
      ap (begins is_pattern_byte) none ∙ sym (ap (begins (λ (b : ℕ). eqb b 37)) none) ∙ e
] where
  or_false : {a b : Bool} → a ≡ false → (a || b) ≡ b
  or_false {a} {b} e = rw e refl

-- the run before the `-` of `path-of` has four bytes
pub path_run : (bytes : List ℕ) (len : ℕ) → EndsRun is_word_byte bytes len → begins_path_of bytes ≡ true → len ≡ 4
path_run bytes len run e =
    let (path, _) = path_of_parts bytes e in
    let least : 4 ≤ len = run_most is_word_byte bytes (codes "path") (codes "-of" ++ drop 7 bytes) len run path refl in
    let most : len ≤ 4 = at_minus path in
    omega arith where
      at_minus : bytes ≡ codes "path-of" ++ drop 7 bytes → len ≤ 4
      at_minus path = elim (cases_lt 4 len) [
        | inl below ↦ absurd (
            let size : length (take len bytes) ≡ len = length-take-le len bytes run.within in
            let minus : get_or bytes 4 0 ≡ 45 = ap (λ (l : List ℕ). get_or l 4 0) path in
            let passes : is_word_byte (get_or (take len bytes) 4 0) ≡ true = list_all-get_or is_word_byte (take len bytes) 4 run.passed (omega arith) in
            let same : get_or (take len bytes) 4 0 ≡ 45 = get_or-take len bytes 4 0 below ∙ minus in
            let wrong : is_word_byte 45 ≡ true = ap is_word_byte (sym same) ∙ passes in cc)
        | inr above ↦ above
      ]

pub no_path : (bytes : List ℕ) (len : ℕ) → EndsRun is_word_byte bytes len → (len ≡ 4 → ⊥) → begins_path_of bytes ≡ false
no_path bytes len run other = elim (cases_Bool (begins_path_of bytes)) [
  | inl path ↦ absurd (other (path_run bytes len run path))
  | inr none ↦ none
]

-- what the run stands for
pub run_kind : (text : List ℕ) (percent : Bool) → list_all is_pattern_byte text ≡ true → list_any (λ (byte : ℕ). eqb byte 37) text ≡ percent → word_kind text ≡ cond percent (Wild text) (Word text)
run_kind text percent all e = let minus = none_among is_pattern_byte text 45 refl all in rw (minus, e) refl

-- a run beyond the limit
pub word_long : (bytes : List ℕ) (len : ℕ) → class_of (get_or bytes 0 0) ≡ Letter → begins_path_of bytes ≡ false → EndsRun is_pattern_byte bytes len → WORD_BYTES < len
    → ReadsFirst bytes (Err TextTooLong)
word_long bytes len class e run long =
    let size : length (take len bytes) ≡ len = length-take-le len bytes run.within in
    elim (cases_Bool (list_any (λ (byte : ℕ). eqb byte 37) (take len bytes))) [
      | inl percent ↦
          let kinds : word_kind (take len bytes) ≡ Wild (take len bytes) = run_kind (take len bytes) true run.passed percent in
          reads_long bytes (Wild (take len bytes)) len (subst (λ (kind : Kind). IsShape bytes kind len) kinds (word_shape bytes len class e run)) tt tt (λ short. omega arith)
      | inr none ↦
          let kinds : word_kind (take len bytes) ≡ Word (take len bytes) = run_kind (take len bytes) false run.passed none in
          reads_long bytes (Word (take len bytes)) len (subst (λ (kind : Kind). IsShape bytes kind len) kinds (word_shape bytes len class e run)) tt tt (λ short. omega arith)
    ]
