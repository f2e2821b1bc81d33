-- The contents between quotes, and the quote that ends them.
use Rattle.std.proofs.Common.{◌≡◌, ◌≢◌, ℕ, ◌+◌, ◌<◌, Bool, true, false, List, [], ◌∷◌, ◌++◌, length, get_or, take, drop, Option, Some, None, refl, sym, ap, ◌∙◌, inl, inr, ◌⊎◌, eqb}
use Rattle.std.specs.Prelude.{not}
use Rattle.std.specs.List.{list_all, list_any}
use Rattle.std.proofs.lemmas.Bool.{ne_eqb, or_parts, and_parts, not-true, cases_Bool, eqb-false, eq-eqb, cases_eq}
use Rattle.std.proofs.lemmas.List.{take_more, take-append-drop, drop_more}
use Rattle.lore_base.specs.Quotes.{unescape, IsContents, IsEscaped}
use Rattle.lorel_lex.specs.inside.Lexing.{escaped_after, ClosesAt, FindsQuote}
use Rattle.lorel_lex.specs.inside.Scanning.{is_neither}

-- behind one more byte
pub escaped_after-push : (quote : ℕ) (escaped : Bool) (bytes : List ℕ) (before : Bool) (byte : ℕ) → escaped_after quote escaped bytes ≡ Some before
    → escaped_after quote escaped (bytes ++ byte ∷ []) ≡ escaped_after quote before (byte ∷ [])
escaped_after-push quote escaped [] before byte e = ap (λ (b : Bool). escaped_after quote b (byte ∷ [])) (let same : escaped ≡ before = cc in same)
escaped_after-push quote true (first ∷ bytes) before byte e = escaped_after-push quote false bytes before byte e
escaped_after-push quote false (first ∷ bytes) before byte e = elim (cases_Bool (eqb first quote)) [
  | inl ends ↦ absurd (let none : None ≡ Some before = rw ends at e in cc)
  | inr other ↦
      let inner : escaped_after quote (eqb first 92) bytes ≡ Some before = rw other at e in
      rw other (escaped_after-push quote (eqb first 92) bytes before byte inner)
]

-- a quote ends what no backslash stands before
quote_ends : (quote : ℕ) (escaped : Bool) (raw back : List ℕ) → escaped_after quote escaped raw ≡ Some false → escaped_after quote escaped (raw ++ quote ∷ back) ≡ None
quote_ends quote escaped [] back e =
    let same : escaped ≡ false = cc in
    let ends : eqb quote quote ≡ true = eq-eqb quote quote refl in
    rw (same, ends) refl
quote_ends quote true (byte ∷ raw) back e = quote_ends quote false raw back e
quote_ends quote false (byte ∷ raw) back e = elim (cases_Bool (eqb byte quote)) [
  | inl ends ↦ rw ends refl
  | inr other ↦
      let inner : escaped_after quote (eqb byte 92) raw ≡ Some false = rw other at e in
      rw other (quote_ends quote (eqb byte 92) raw back inner)
]

-- bytes that are neither the quote nor a backslash leave the contents open
pub plain_inside : (quote : ℕ) (raw : List ℕ) → list_all (is_neither quote 92) raw ≡ true → escaped_after quote false raw ≡ Some false
plain_inside quote [] e = refl
plain_inside quote (byte ∷ raw) e =
    let both = and_parts (is_neither quote 92 byte) (list_all (is_neither quote 92) raw) e in
    let parts = and_parts (not (eqb byte quote)) (not (eqb byte 92)) both.0 in
    let other : eqb byte quote ≡ false = not-true (eqb byte quote) parts.0 in
    let plain : eqb byte 92 ≡ false = not-true (eqb byte 92) parts.1 in
    rw (other, plain) (plain_inside quote raw both.1)

-- where no quote ends the contents, none and a quote stand at the front
pub no_quote : (quote : ℕ) (bytes : List ℕ) (escaped : Bool) → escaped_after quote false bytes ≡ Some escaped → FindsQuote quote bytes None
no_quote quote bytes escaped e raw back parts inside =
    let none : escaped_after quote false bytes ≡ None = ap (escaped_after quote false) parts ∙ quote_ends quote false raw back inside in cc

-- contents hold no quote that ends them
mutual
  pub contents_inside : (quote : ℕ) (raw text : List ℕ) → quote ≢ 92 → IsContents quote raw text → escaped_after quote false raw ≡ Some false
  contents_inside quote [] text plain f = refl
  contents_inside quote (byte ∷ raw) text plain (inl (slash, f)) =
      let other : eqb 92 quote ≡ false = ne_eqb 92 quote (λ e. plain (sym e)) in
      rw (slash, other) (escaped_inside quote raw text plain f)
  contents_inside quote (byte ∷ raw) text plain (inr (unended, unescaped, rest, e, f)) =
      let other : eqb byte quote ≡ false = ne_eqb byte quote unended in
      let same : eqb byte 92 ≡ false = ne_eqb byte 92 unescaped in
      rw (other, same) (contents_inside quote raw rest plain f)

  escaped_inside : (quote : ℕ) (raw text : List ℕ) → quote ≢ 92 → IsEscaped quote raw text → escaped_after quote true raw ≡ Some false
  escaped_inside quote [] text plain f = absurd f
  escaped_inside quote (letter ∷ raw) text plain (byte, rest, is, e, f) = contents_inside quote raw rest plain f

-- two fronts that a quote ends are one
pub same_front : (quote : ℕ) (escaped : Bool) (a b x y : List ℕ) → escaped_after quote escaped a ≡ Some false → escaped_after quote escaped b ≡ Some false → a ++ quote ∷ x ≡ b ++ quote ∷ y → a ≡ b
same_front quote escaped [] [] x y f g e = refl
same_front quote escaped [] (byte ∷ b) x y f g e = absurd (
    let head : byte ≡ quote = cc in
    let open' : escaped ≡ false = cc in
    let ends : eqb byte quote ≡ true = eq-eqb byte quote head in
    let none : escaped_after quote escaped (byte ∷ b) ≡ None = rw (open', ends) refl in cc)
same_front quote escaped (byte ∷ a) [] x y f g e = absurd (
    let head : byte ≡ quote = cc in
    let open' : escaped ≡ false = cc in
    let ends : eqb byte quote ≡ true = eq-eqb byte quote head in
    let none : escaped_after quote escaped (byte ∷ a) ≡ None = rw (open', ends) refl in cc)
same_front quote true (byte ∷ a) (other ∷ b) x y f g e =
    let head : byte ≡ other = cc in
    let tails : a ≡ b = same_front quote false a b x y f g (let inner : a ++ quote ∷ x ≡ b ++ quote ∷ y = cc in inner) in cc
same_front quote false (byte ∷ a) (other ∷ b) x y f g e = elim (cases_Bool (eqb byte quote)) [
  | inl ends ↦ absurd (let none : None ≡ Some false = rw ends at f in cc)
  | inr plain ↦
      let head : byte ≡ other = cc in
      let f' : escaped_after quote (eqb byte 92) a ≡ Some false = rw plain at f in
      let plain' : eqb other quote ≡ false = rw head at plain in
      let g' : escaped_after quote (eqb other 92) b ≡ Some false = rw plain' at g in
      let g'' : escaped_after quote (eqb byte 92) b ≡ Some false = rw head g' in
      let tails : a ≡ b = same_front quote (eqb byte 92) a b x y f' g'' (let inner : a ++ quote ∷ x ≡ b ++ quote ∷ y = cc in inner) in cc
]

-- the bytes before a quote are those up to the quote that ends the contents
pub same_raw : (quote : ℕ) (bytes raw back : List ℕ) (at : ℕ) → ClosesAt quote bytes at → bytes ≡ raw ++ quote ∷ back → escaped_after quote false raw ≡ Some false → raw ≡ take at bytes
same_raw quote bytes raw back at closes parts inside =
    let cut : bytes ≡ take at bytes ++ quote ∷ drop (at + 1) bytes =
    sym (take-append-drop at bytes) ∙ ap (λ (l : List ℕ). take at bytes ++ l) (drop_more bytes at 0 closes.within ∙ ap (λ (b : ℕ). b ∷ drop (at + 1) bytes) closes.ended) in
    same_front quote false raw (take at bytes) back (drop (at + 1) bytes) inside closes.inside (sym parts ∙ cut)

-- contents without a backslash stand for themselves
pub plain_contents : (quote : ℕ) (raw : List ℕ) → list_any (λ (byte : ℕ). eqb byte 92) raw ≡ false → (escaped : Bool) → escaped_after quote false raw ≡ Some escaped → IsContents quote raw raw
plain_contents quote [] none escaped e = refl
plain_contents quote (byte ∷ raw) none escaped e = elim (cases_Bool (eqb byte quote)) [
  | inl ends ↦ absurd (let wrong : None ≡ Some escaped = rw ends at e in cc)
  | inr other ↦
      let parts = or_parts (eqb byte 92) (list_any (λ (b : ℕ). eqb b 92) raw) none in
      let e' : escaped_after quote (eqb byte 92) raw ≡ Some escaped = rw other at e in
      let e'' : escaped_after quote false raw ≡ Some escaped = rw parts.0 at e' in
      inr (eqb-false byte quote other, eqb-false byte 92 parts.0, raw, refl, plain_contents quote raw parts.1 escaped e'')
]

-- the same bytes stand for one text
mutual
  pub same_contents : (quote : ℕ) (raw a b : List ℕ) → IsContents quote raw a → IsContents quote raw b → a ≡ b
  same_contents quote [] a b f g = f ∙ sym g
  same_contents quote (byte ∷ raw) a b (inl (slash, f)) (inl (slash', g)) = same_escaped quote raw a b f g
  same_contents quote (byte ∷ raw) a b (inl (slash, f)) (inr (ends, plain, rest, e, g)) = absurd (plain slash)
  same_contents quote (byte ∷ raw) a b (inr (ends, plain, rest, e, f)) (inl (slash, g)) = absurd (plain slash)
  same_contents quote (byte ∷ raw) a b (inr (ends, plain, rest, e, f)) (inr (ends', plain', rest', e', g)) =
      e ∙ ap (λ (l : List ℕ). byte ∷ l) (same_contents quote raw rest rest' f g) ∙ sym e'

  same_escaped : (quote : ℕ) (raw a b : List ℕ) → IsEscaped quote raw a → IsEscaped quote raw b → a ≡ b
  same_escaped quote [] a b f g = absurd f
  same_escaped quote (letter ∷ raw) a b (byte, rest, is, e, f) (byte', rest', is', e', g) =
      let bytes : byte ≡ byte' = cc in
      let rests : rest ≡ rest' = same_contents quote raw rest rest' f g in
      cc

a_byte : (found : Option ℕ) → (found ≡ None) ⊎ ((byte : ℕ) × (found ≡ Some byte))
a_byte None = inl refl
a_byte (Some byte) = inr (byte, refl)

-- each list of bytes is the contents of some text, or of none
mutual
  pub a_text : (quote : ℕ) (raw : List ℕ) → ((text : List ℕ) × IsContents quote raw text) ⊎ ((text : List ℕ) → IsContents quote raw text → ⊥)
  a_text quote [] = inl ([], refl)
  a_text quote (byte ∷ raw) = elim (cases_eq byte 92) [
    | inl slash ↦ elim (an_escape quote raw) [
      | inl (text, f) ↦ inl (text, inl (slash, f))
      | inr none ↦ inr (λ text f. elim f [ inl (_, g) ↦ none text g | inr (_, plain, _, _, _) ↦ plain slash ])
    ]
    | inr plain ↦ elim (cases_eq byte quote) [
      | inl ends ↦ inr (λ text f. elim f [ inl (slash, _) ↦ plain slash | inr (unended, _, _, _, _) ↦ unended ends ])
      | inr unended ↦ elim (a_text quote raw) [
        | inl (text, f) ↦ inl (byte ∷ text, inr (unended, plain, text, refl, f))
        | inr none ↦ inr (λ text f. elim f [ inl (slash, _) ↦ plain slash | inr (_, _, rest, _, g) ↦ none rest g ])
      ]
    ]
  ]

  an_escape : (quote : ℕ) (raw : List ℕ) → ((text : List ℕ) × IsEscaped quote raw text) ⊎ ((text : List ℕ) → IsEscaped quote raw text → ⊥)
  an_escape quote [] = inr (λ text f. f)
  an_escape quote (letter ∷ raw) = elim (a_byte (unescape quote letter)) [
    | inl none ↦ inr (λ text f. let (byte, rest, is, _, _) = f in let wrong : None ≡ Some byte = sym none ∙ is in cc)
    | inr (byte, is) ↦ elim (a_text quote raw) [
      | inl (text, f) ↦ inl (byte ∷ text, (byte, text, is, refl, f))
      | inr none ↦ inr (λ text f. let (_, rest, _, _, g) = f in none rest g)
    ]
  ]

-- a scan behind one more byte

pub escaped-more : (quote : ℕ) (bytes : List ℕ) (i : ℕ) (before after : Bool) → i < length bytes → escaped_after quote false (take i bytes) ≡ Some before
    → escaped_after quote before (get_or bytes i 0 ∷ []) ≡ Some after → escaped_after quote false (take (i + 1) bytes) ≡ Some after
escaped-more quote bytes i before after l e f =
    ap (escaped_after quote false) (take_more bytes i 0 l) ∙ escaped_after-push quote false (take i bytes) before (get_or bytes i 0) e ∙ f

pub escaped_by : (quote : ℕ) (before : Bool) (byte : ℕ) → before ≡ true → escaped_after quote before (byte ∷ []) ≡ Some false
escaped_by quote before byte e = rw e refl

pub unescaped_by : (quote : ℕ) (before after : Bool) (byte : ℕ) → before ≡ false → (byte ≡ quote → ⊥) → after ≡ eqb byte 92 → escaped_after quote before (byte ∷ []) ≡ Some after
unescaped_by quote before after byte e unended f = let other : eqb byte quote ≡ false = ne_eqb byte quote unended in rw (e, other, f) refl
