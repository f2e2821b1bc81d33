-- Signs that are laid on characters, each on one, and what `%` in front of signs adds.
use Rattle.std.proofs.Common.{◌≡◌, ◌≢◌, ◌↔◌, ◌≤◌, ◌+◌, ◌-◌, ◌==◌, ℕ, Bool, true, false, if◌then◌else◌, List, [], ◌∷◌, ◌++◌, length, take, drop, map, suc, refl, sym, ap, subst, ◌∙◌, arith, length-append, append_assoc}
use Rattle.std.specs.List.{prefix_len}
use Rattle.std.specs.Str.{bytes_eq}
use Rattle.std.proofs.lemmas.List.{take_rest}
use Rattle.std.proofs.lemmas.Bool.{true≢false}
use Rattle.std.proofs.lemmas.Bool.Decides.{nat_tests}
use Rattle.std.proofs.lemmas.Slice.Eq.{bytes_eq-Decides}
use Rattle.lore_base.specs.Wildcards.{Sign, many, one, itself, StandFor, goes_on, with_byte, characters, label_sign}
use Rattle.lore_base.specs.inside.Attempts.{sign_of, signs_of, Stands, StandOneByOne, LiesBefore}

take-one : (n : ℕ) (x : ℕ) (xs : List ℕ) → take (1 + n) (x ∷ xs) ≡ x ∷ take n xs
take-one n x xs = let e : 1 + n ≡ suc n = omega arith in rw e refl

drop-one : (n : ℕ) (x : ℕ) (xs : List ℕ) → drop (1 + n) (x ∷ xs) ≡ drop n xs
drop-one n x xs = let e : 1 + n ≡ suc n = omega arith in rw e refl

-- the first character of a text: its first byte and those that go on behind it
characters-split : (byte : ℕ) (bytes : List ℕ) → let n = prefix_len goes_on bytes in
    characters (byte ∷ bytes) ≡ (byte ∷ take n bytes) ∷ characters (drop n bytes)
characters-split byte [] = refl
characters-split byte (next ∷ bytes) =
    let later = characters-split next bytes in
    ap (with_byte byte) later
    ∙ elim (goes_on next) as (λ b. let n = if b then 1 + prefix_len goes_on bytes else 0 in
    (if b then (byte ∷ next ∷ take (prefix_len goes_on bytes) bytes) ∷ characters (drop (prefix_len goes_on bytes) bytes)
    else (byte ∷ []) ∷ (next ∷ take (prefix_len goes_on bytes) bytes) ∷ characters (drop (prefix_len goes_on bytes) bytes))
    ≡ (byte ∷ take n (next ∷ bytes)) ∷ characters (drop n (next ∷ bytes)))
    [ true ↦ rw (take-one (prefix_len goes_on bytes) next bytes, drop-one (prefix_len goes_on bytes) next bytes) refl | false ↦ ap (λ l. (byte ∷ []) ∷ l) (sym later) ]

pub first-split : (bytes rest : List ℕ) (byte n : ℕ) → bytes ≡ byte ∷ rest → n ≡ prefix_len goes_on rest
    → characters bytes ≡ take (1 + n) bytes ∷ characters (take (length bytes - (1 + n)) (drop (1 + n) bytes))
first-split bytes rest byte n is count = rw (take_rest bytes (1 + n), is, count, take-one (prefix_len goes_on rest) byte rest, drop-one (prefix_len goes_on rest) byte rest) (characters-split byte rest)

-- a sign that stands for one character
abbrev pub IsSingle : Sign → Type 0
IsSingle many = ⊥
IsSingle one = Unit {0}
IsSingle (itself own) = Unit {0}

single : (s : Sign) (c : List ℕ) → Stands s c → IsSingle s
single many c h = h
single one c h = tt
single (itself own) c h = tt

one-on : (s : Sign) (c : List ℕ) (later : List Sign) (rest : List (List ℕ)) → Stands s c → StandFor later rest → StandFor (s ∷ later) (c ∷ rest)
one-on many c later rest h on = absurd h
one-on one c later rest h on = (c, rest, refl, on)
one-on (itself own) c later rest h on = (rest, ap (λ d. d ∷ rest) (sym h), on)

pub one-off : (s : Sign) (later : List Sign) (text : List (List ℕ)) → IsSingle s → StandFor (s ∷ later) text
    → (c : List ℕ) × (rest : List (List ℕ)) × (text ≡ c ∷ rest) × Stands s c × StandFor later rest
one-off many later text h on = absurd h
one-off one later text h on = (on.0, on.1, on.2, tt, on.3)
one-off (itself own) later text h on = (own, on.0, on.1, refl, on.2)

push : (front : List Sign) (read : List (List ℕ)) (s : Sign) (c : List ℕ) → StandOneByOne front read → Stands s c → StandOneByOne (front ++ s ∷ []) (read ++ c ∷ [])
push [] [] s c h stands = (stands, tt)
push [] (d ∷ read) s c h stands = absurd h
push (t ∷ front) [] s c h stands = absurd h
push (t ∷ front) (d ∷ read) s c h stands = (h.0, push front read s c h.1 stands)

stand-on : (front : List Sign) (read : List (List ℕ)) (later : List Sign) (rest : List (List ℕ))
    → StandOneByOne front read → StandFor later rest → StandFor (front ++ later) (read ++ rest)
stand-on [] [] later rest h on = on
stand-on [] (d ∷ read) later rest h on = absurd h
stand-on (t ∷ front) [] later rest h on = absurd h
stand-on (t ∷ front) (d ∷ read) later rest h on = one-on t d (front ++ later) (read ++ rest) h.0 (stand-on front read later rest h.1 on)

stand-off : (front : List Sign) (read : List (List ℕ)) (later : List Sign) (text : List (List ℕ)) → StandOneByOne front read → StandFor (front ++ later) text
    → (skipped : List (List ℕ)) × (rest : List (List ℕ)) × (text ≡ skipped ++ rest) × (length read ≡ length skipped) × StandFor later rest
stand-off [] [] later text h on = ([], text, refl, refl, on)
stand-off [] (d ∷ read) later text h on = absurd h
stand-off (t ∷ front) [] later text h on = absurd h
stand-off (t ∷ front) (d ∷ read) later text h on =
    let first = one-off t (front ++ later) text (single t d h.0) on in
    let others = stand-off front read later first.1 h.1 first.4 in
    (first.0 ∷ others.0, others.1, first.2 ∙ ap (λ l. first.0 ∷ l) others.2, omega (arith, others.3), others.4)

-- of two ends of one list the longer has the shorter at its own end
longer-end : (a x b y : List (List ℕ)) → a ++ x ≡ b ++ y → length a ≤ length b → (more : List (List ℕ)) × (x ≡ more ++ y)
longer-end [] x b y e h = (b, e)
longer-end (i ∷ a) x [] y e h = absurd (omega (arith, h))
longer-end (i ∷ a) x (j ∷ b) y e h = let rest : a ++ x ≡ b ++ y = cc in longer-end a x b y rest (omega (arith, h))

same-end : (a x b y : List (List ℕ)) → a ++ x ≡ b ++ y → length a ≡ length b → x ≡ y
same-end [] x [] y e h = e
same-end [] x (j ∷ b) y e h = absurd (omega (arith, h))
same-end (i ∷ a) x [] y e h = absurd (omega (arith, h))
same-end (i ∷ a) x (j ∷ b) y e h = let rest : a ++ x ≡ b ++ y = cc in same-end a x b y rest (omega (arith, h))

module _ (signs later : List Sign) (text rest : List (List ℕ)) (lies : LiesBefore signs later text rest) where
  pub lies-on : StandFor later rest → StandFor signs text
  lies-on on = rw (lies.signs_are, lies.text_is) (stand-on lies.front lies.read later rest lies.stand on)

  pub lies-off : StandFor signs text → StandFor later rest
  lies-off on =
      let parts = stand-off lies.front lies.read later text lies.stand (rw lies.signs_are at on) in
      let same = same-end lies.read rest parts.0 parts.1 (sym lies.text_is ∙ parts.2) parts.3 in
      rw same parts.4

pub lies-none : (signs : List Sign) (text : List (List ℕ)) → LiesBefore signs signs text text
lies-none signs text = record { front = []; read = []; signs_are = refl; text_is = refl; stand = tt }

pub lies-more : (signs later : List Sign) (text rest : List (List ℕ)) (s : Sign) (c : List ℕ) (others : List Sign) (behind : List (List ℕ))
    → LiesBefore signs later text rest → later ≡ s ∷ others → rest ≡ c ∷ behind → Stands s c → LiesBefore signs others text behind
lies-more signs later text rest s c others behind lies signs_are text_is stands = record {
  front = lies.front ++ s ∷ [];
  read = lies.read ++ c ∷ [];
  signs_are = lies.signs_are ∙ ap (λ l. lies.front ++ l) signs_are ∙ sym (append_assoc lies.front (s ∷ []) others);
  text_is = lies.text_is ∙ ap (λ l. lies.read ++ l) text_is ∙ sym (append_assoc lies.read (c ∷ []) behind);
  stand = push lies.front lies.read s c lies.stand stands;
}

-- `%` also takes in what lies before
absorb : (signs : List Sign) (more text : List (List ℕ)) → StandFor (many ∷ signs) text → StandFor (many ∷ signs) (more ++ text)
absorb signs more text h = (more ++ h.0, h.1, ap (λ l. more ++ l) h.2 ∙ sym (append_assoc more h.0 h.1), h.3)

pub many-here : (signs : List Sign) (text : List (List ℕ)) → StandFor signs text → StandFor (many ∷ signs) text
many-here signs text h = ([], text, refl, h)

-- where the signs don't stand for a text, `%` before them takes in its first character
pub many-none : (signs : List Sign) (text : List (List ℕ)) → text ≡ [] → (StandFor signs text → ⊥) → StandFor (many ∷ signs) text → ⊥
many-none signs text none fails h = elim h.0 as (λ skipped. text ≡ skipped ++ h.1 → ⊥) [
  | [] ↦ λ e. fails (rw e h.3)
  | c ∷ skipped ↦ λ e. absurd (cc)
] h.2

pub many-later : (signs : List Sign) (text : List (List ℕ)) (c : List ℕ) (behind : List (List ℕ)) → text ≡ c ∷ behind → (StandFor signs text → ⊥)
    → StandFor (many ∷ signs) text ↔ StandFor (many ∷ signs) behind
many-later signs text c behind is fails = (
  λ h. elim h.0 as (λ skipped. text ≡ skipped ++ h.1 → StandFor (many ∷ signs) behind) [
    | [] ↦ λ e. absurd (fails (rw e h.3))
    | d ∷ skipped ↦ λ e. (let rest : behind ≡ skipped ++ h.1 = cc in (skipped, h.1, rest, h.3))
  ] h.2,
  λ h. rw is (absorb signs (c ∷ []) behind h),
)

-- where the signs lie on the text up to a further `%`, they stand for a later part of it exactly where that `%` and
-- what is behind it stand for the rest
pub many-further : (signs behind : List Sign) (text rest : List (List ℕ)) → LiesBefore signs (many ∷ behind) text rest
    → StandFor (many ∷ signs) text ↔ StandFor (many ∷ behind) rest
many-further signs behind text rest lies = (
  λ h. (
      let parts = stand-off lies.front lies.read (many ∷ behind) h.1 lies.stand (rw lies.signs_are at h.3) in
      let whole = sym lies.text_is ∙ h.2 ∙ ap (λ l. h.0 ++ l) parts.2 ∙ sym (append_assoc h.0 parts.0 parts.1) in
      let end = longer-end lies.read rest (h.0 ++ parts.0) parts.1 whole (omega (arith, parts.3, length-append h.0 parts.0)) in
      rw end.1 (absorb behind end.0 parts.1 parts.4)),
  λ h. many-here signs text (lies-on signs (many ∷ behind) text rest lies h),
)

-- the character of a pattern that isn't `%` stands for one
single-label : (character : List ℕ) → character ≢ 37 ∷ [] → IsSingle (label_sign character)
single-label character other =
    elim (bytes_eq character (37 ∷ [])) as (λ b. bytes_eq character (37 ∷ []) ≡ b → IsSingle (if b then many else itself character)) [
      | true ↦ λ same. absurd (other ((bytes_eq-Decides character (37 ∷ [])).0 same))
      | false ↦ λ differ. tt
    ] refl

single-sign : (in_like : Bool) (character : List ℕ) → character ≢ 37 ∷ [] → IsSingle (sign_of in_like character)
single-sign true character other = elim (bytes_eq character (95 ∷ [])) as (λ b. IsSingle (if b then one else label_sign character)) [
  | true ↦ tt
  | false ↦ single-label character other
]
single-sign false character other = single-label character other

pub differs : (sign percent : List ℕ) → percent ≡ 37 ∷ [] → false ≡ bytes_eq sign percent → sign ≢ 37 ∷ []
differs sign percent is test same = true≢false (sym ((bytes_eq-Decides sign percent).1 (same ∙ sym is)) ∙ sym test)

-- `%` is the sign that stands for many
pub many-sign : (in_like : Bool) (sign percent : List ℕ) → percent ≡ 37 ∷ [] → true ≡ bytes_eq sign percent → sign_of in_like sign ≡ many
many-sign in_like sign percent is test =
    let same : sign ≡ 37 ∷ [] = (bytes_eq-Decides sign percent).0 (sym test) ∙ is in
    rw same (elim in_like as (λ b. sign_of b (37 ∷ []) ≡ many) [ true ↦ refl | false ↦ refl ])

module _ (in_like : Bool) (pattern sign later text : List ℕ) (parts : characters pattern ≡ sign ∷ characters later) where
  pub signs-split : signs_of in_like pattern ≡ sign_of in_like sign ∷ signs_of in_like later
  signs-split = ap (map (sign_of in_like)) parts

  module _ (other : sign ≢ 37 ∷ []) (on : StandFor (signs_of in_like pattern) (characters text)) where
    needs : (c : List ℕ) × (rest : List (List ℕ)) × (characters text ≡ c ∷ rest) × Stands (sign_of in_like sign) c × StandFor (signs_of in_like later) rest
    needs = one-off (sign_of in_like sign) (signs_of in_like later) (characters text) (single-sign in_like sign other)
        (subst (λ (s : List Sign). StandFor s (characters text)) signs-split on)

    -- it doesn't stand for the end of the text
    pub none-left : text ≡ [] → ⊥
    none-left none = let bad : [] ≡ needs.0 ∷ needs.1 = ap characters (sym none) ∙ needs.2 in absurd (cc)

    -- nor for another character
    pub mismatch : (character rest : List ℕ) → characters text ≡ character ∷ characters rest → Stands (sign_of in_like sign) character
    mismatch character rest is =
        let taken : characters text ≡ needs.0 ∷ needs.1 = needs.2 in
        let same : needs.0 ≡ character = cc in
        subst (λ (c : List ℕ). Stands (sign_of in_like sign) c) same needs.3

pub no-bytes : (text : List ℕ) (b : Bool) → b ≡ (length text == 0) → b ≡ true → text ≡ []
no-bytes [] b is holds = refl
no-bytes (byte ∷ text) b is holds = let zero : length (byte ∷ text) ≡ 0 = grind (arith, nat_tests, sym is ∙ holds) in absurd (omega (arith, zero))

-- no sign stands for no character, and for no more
pub whole : (in_like : Bool) (pattern text : List ℕ) → pattern ≡ [] → text ≡ [] → StandFor (signs_of in_like pattern) (characters text)
whole in_like pattern text no_pattern no_text = rw (no_pattern, no_text) refl

characters-none : (text : List ℕ) → characters text ≡ [] → text ≡ []
characters-none [] none = refl
characters-none (byte ∷ text) none = let split = characters-split byte text in absurd (cc)

pub ended : (in_like : Bool) (pattern text : List ℕ) → pattern ≡ [] → StandFor (signs_of in_like pattern) (characters text) → text ≡ []
ended in_like pattern text none on = characters-none text (subst (λ (p : List ℕ). StandFor (signs_of in_like p) (characters text)) none on)
