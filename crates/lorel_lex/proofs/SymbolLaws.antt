-- The symbols by their bytes.
use Rattle.std.proofs.Common.{◌≡◌, ℕ, ◌≤◌, cond, List, [], ◌∷◌, ◌++◌, length, Option, Some, None, refl, sym, ap, ◌∙◌, inl, inr, ◌⊎◌, arith, eqb, eqb-true}
use Rattle.std.proofs.lemmas.Bool.{cases_Bool}
use Rattle.lorel_lex.specs.Types.{Sign, LeftBrace, RightBrace, LeftParen, RightParen, Comma, Dot, Colon, Assign, Equal, SameAs, NotEqual, Less, LessEqual, Greater, GreaterEqual, PlusAssign, MinusAssign, Question, Star, Plus, Bar, Hash, At}
use Rattle.lorel_tokens.specs.Shapes.{sign_text}
use Rattle.lorel_lex.specs.inside.Lexing.{single, paired, pair_at}

-- a symbol is one byte, or one byte and a `=`
pub data Written (sign : Sign) : Type 0 where
  one : (byte : ℕ) → sign_text sign ≡ byte ∷ [] → single byte ≡ Some sign → Written sign
  two : (byte : ℕ) → sign_text sign ≡ byte ∷ 61 ∷ [] → paired byte ≡ Some sign → Written sign

pub written : (sign : Sign) → Written sign
written LeftBrace = one 123 refl refl
written RightBrace = one 125 refl refl
written LeftParen = one 40 refl refl
written RightParen = one 41 refl refl
written Comma = one 44 refl refl
written Dot = one 46 refl refl
written Colon = one 58 refl refl
written Assign = two 58 refl refl
written Equal = one 61 refl refl
written SameAs = two 61 refl refl
written NotEqual = two 33 refl refl
written Less = one 60 refl refl
written LessEqual = two 60 refl refl
written Greater = one 62 refl refl
written GreaterEqual = two 62 refl refl
written PlusAssign = two 43 refl refl
written MinusAssign = two 45 refl refl
written Question = one 63 refl refl
written Star = one 42 refl refl
written Plus = one 43 refl refl
written Bar = one 124 refl refl
written Hash = one 35 refl refl
written At = one 64 refl refl

-- one step of a table
step : (byte key : ℕ) (value : Sign) (others : Option Sign) (sign : Sign) (tail : List ℕ) → sign_text value ≡ key ∷ tail → cond (eqb byte key) (Some value) others ≡ Some sign
    → (sign_text sign ≡ byte ∷ tail) ⊎ (others ≡ Some sign)
step byte key value others sign tail text e = elim (cases_Bool (eqb byte key)) [
  | inl same ↦
      let found : Some value ≡ Some sign = rw same at e in
      let values : value ≡ sign = cc in
      let keys : byte ≡ key = eqb-true byte key same in
      inl (sym (ap sign_text values) ∙ text ∙ ap (λ (b : ℕ). b ∷ tail) (sym keys))
  | inr other ↦ inr (let found : others ≡ Some sign = rw other at e in found)
]

or_else : {A B : Type 0} → A ⊎ B → (B → A) → A
or_else (inl a) more = a
or_else (inr b) more = more b

pub paired_text : (byte : ℕ) (sign : Sign) → paired byte ≡ Some sign → sign_text sign ≡ byte ∷ 61 ∷ []
paired_text byte sign e =
    or_else (step byte 58 Assign _ sign (61 ∷ []) refl e) (λ e.
    or_else (step byte 61 SameAs _ sign (61 ∷ []) refl e) (λ e.
    or_else (step byte 33 NotEqual _ sign (61 ∷ []) refl e) (λ e.
    or_else (step byte 60 LessEqual _ sign (61 ∷ []) refl e) (λ e.
    or_else (step byte 62 GreaterEqual _ sign (61 ∷ []) refl e) (λ e.
    or_else (step byte 43 PlusAssign _ sign (61 ∷ []) refl e) (λ e.
    or_else (step byte 45 MinusAssign _ sign (61 ∷ []) refl e) (λ e. absurd (cc))))))))

pub single_text : (byte : ℕ) (sign : Sign) → single byte ≡ Some sign → sign_text sign ≡ byte ∷ []
single_text byte sign e =
    or_else (step byte 123 LeftBrace _ sign [] refl e) (λ e.
    or_else (step byte 125 RightBrace _ sign [] refl e) (λ e.
    or_else (step byte 40 LeftParen _ sign [] refl e) (λ e.
    or_else (step byte 41 RightParen _ sign [] refl e) (λ e.
    or_else (step byte 44 Comma _ sign [] refl e) (λ e.
    or_else (step byte 46 Dot _ sign [] refl e) (λ e.
    or_else (step byte 58 Colon _ sign [] refl e) (λ e.
    or_else (step byte 61 Equal _ sign [] refl e) (λ e.
    or_else (step byte 60 Less _ sign [] refl e) (λ e.
    or_else (step byte 62 Greater _ sign [] refl e) (λ e.
    or_else (step byte 63 Question _ sign [] refl e) (λ e.
    or_else (step byte 42 Star _ sign [] refl e) (λ e.
    or_else (step byte 43 Plus _ sign [] refl e) (λ e.
    or_else (step byte 124 Bar _ sign [] refl e) (λ e.
    or_else (step byte 35 Hash _ sign [] refl e) (λ e.
    or_else (step byte 64 At _ sign [] refl e) (λ e. absurd (cc)))))))))))))))))

-- two bytes at the front that are a symbol
pub pair_front : (bytes : List ℕ) (sign : Sign) → pair_at bytes ≡ Some sign → (back : List ℕ) × (bytes ≡ sign_text sign ++ back) × (length (sign_text sign) ≡ 2)
pair_front [] sign e = absurd (cc)
pair_front (byte ∷ []) sign e = absurd (cc)
pair_front (byte ∷ next ∷ bytes) sign e = elim (cases_Bool (eqb next 61)) [
  | inl equal ↦
      let found : paired byte ≡ Some sign = rw equal at e in
      let text = paired_text byte sign found in
      let second : next ≡ 61 = eqb-true next 61 equal in
      (bytes, ap (λ (b : ℕ). byte ∷ b ∷ bytes) second ∙ ap (λ (l : List ℕ). l ++ bytes) (sym text), ap length text)
  | inr other ↦ absurd (let none : None ≡ Some sign = rw other at e in cc)
]

-- a symbol of two bytes at the front is that pair
pub pair_found : (bytes back : List ℕ) (byte : ℕ) (sign : Sign) → bytes ≡ byte ∷ 61 ∷ back → paired byte ≡ Some sign → pair_at bytes ≡ Some sign
pair_found bytes back byte sign e found = ap pair_at e ∙ found

-- two symbols with the same bytes are one
pub same_symbol : (text : List ℕ) (sign other : Sign) → text ≡ sign_text sign → text ≡ sign_text other → sign ≡ other
same_symbol text sign other e f = same (written sign) (written other) where
  same : Written sign → Written other → sign ≡ other
  same (one byte t s) (one byte' t' s') = let heads : byte ∷ [] ≡ byte' ∷ [] = sym t ∙ sym e ∙ f ∙ t' in let bytes : byte ≡ byte' = cc in cc
  same (two byte t s) (two byte' t' s') = let heads : byte ∷ 61 ∷ [] ≡ byte' ∷ 61 ∷ [] = sym t ∙ sym e ∙ f ∙ t' in let bytes : byte ≡ byte' = cc in cc
  same (one byte t s) (two byte' t' s') = absurd (let heads : byte ∷ [] ≡ byte' ∷ 61 ∷ [] = sym t ∙ sym e ∙ f ∙ t' in cc)
  same (two byte t s) (one byte' t' s') = absurd (let heads : byte ∷ 61 ∷ [] ≡ byte' ∷ [] = sym t ∙ sym e ∙ f ∙ t' in cc)

pub sign_short : (sign : Sign) → length (sign_text sign) ≤ 2
sign_short sign = short (written sign) where
  short : Written sign → length (sign_text sign) ≤ 2
  short (one byte t s) = omega (arith, ap length t)
  short (two byte t s) = omega (arith, ap length t)
