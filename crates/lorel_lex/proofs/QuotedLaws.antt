-- The text or the quoted label at the front.
use Rattle.std.proofs.Common.{◌≡◌, ◌≢◌, ℕ, ◌+◌, ◌≤◌, List, [], ◌∷◌, ◌++◌, length, take, drop, None, Err, suc, refl, sym, ap, ◌∙◌, subst, arith, get_or}
use Rattle.std.proofs.lemmas.List.{append_assoc, append_cancel_right, length-append, length-take-le, take_more, take-append-drop}
use Rattle.lorel_lex.specs.Types.{Chars, Quoted, DoubleQuote, SingleQuote, LexFault, BadToken}
use Rattle.lore_base.specs.Quotes.{IsContents, IsQuoted}
use Rattle.lorel_lex.specs.Tokens.{BeginsNone}
use Rattle.lorel_lex.specs.inside.Lexing.{class_of, ClosesAt, FindsQuote, IsShape, Resolves, Encloses, ReadsQuoted}
use Rattle.lorel_lex.proofs.ClassLaws.{admitted, text_kind, label_kind}
use Rattle.lorel_lex.proofs.ContentsLaws.{same_raw, contents_inside, same_contents}
use Rattle.lorel_lex.proofs.FaultLaws.{shape, same_cut}

-- quoted contents at the front
pub record IsFrontQuoted (quote : ℕ) (rest front back text : List ℕ) : Type 0 where
  pub raw : List ℕ
  pub shape : front ≡ quote ∷ (raw ++ quote ∷ [])
  pub parts : rest ≡ raw ++ quote ∷ back
  pub contents : IsContents quote raw text

pub front_quoted : (quote : ℕ) (bytes rest front back text : List ℕ) → bytes ≡ quote ∷ rest → bytes ≡ front ++ back → IsQuoted quote front text → IsFrontQuoted quote rest front back text
front_quoted quote bytes rest front back text e parts (raw, f, contents) =
    let both : quote ∷ rest ≡ (quote ∷ (raw ++ quote ∷ [])) ++ back = sym e ∙ parts ∙ ap (λ (l : List ℕ). l ++ back) f in
    let tails : rest ≡ (raw ++ quote ∷ []) ++ back = cc in
    record { raw = raw; shape = f; parts = tails ∙ append_assoc raw (quote ∷ []) back; contents = contents }

-- no quote ends them
pub none_unclosed : (quote : ℕ) (bytes rest : List ℕ) → quote ≢ 92 → bytes ≡ quote ∷ rest → FindsQuote quote rest None → ReadsQuoted quote bytes (Err BadToken)
none_unclosed quote bytes rest plain e none free = (
  refl,
  λ front back text parts q.
      let t = front_quoted quote bytes rest front back text e parts q in
      none t.raw back t.parts (contents_inside quote t.raw text plain t.contents),
)

-- what stands before the quote are no contents
pub none_contents : (quote : ℕ) (bytes rest raw : List ℕ) (len : ℕ) (fault : LexFault) → quote ≢ 92 → bytes ≡ quote ∷ rest → ClosesAt quote rest len → raw ≡ take len rest
    → Resolves {X = List ℕ} (λ (text : List ℕ). text) quote raw (Err fault) → ReadsQuoted quote bytes (Err fault)
none_contents quote bytes rest raw len fault plain e closes same none free =
    let (bad, wrong) = none free in (
      bad,
      λ front back text parts q.
          let t = front_quoted quote bytes rest front back text e parts q in
          let raws : t.raw ≡ raw = same_raw quote rest t.raw back len closes t.parts (contents_inside quote t.raw text plain t.contents) ∙ sym same in
          wrong text (subst (λ (r : List ℕ). IsContents quote r text) raws t.contents),
    )

-- up to the quote that ends them
pub encloses : (quote : ℕ) (bytes rest raw contents : List ℕ) (len : ℕ) → quote ≢ 92 → bytes ≡ quote ∷ rest → ClosesAt quote rest len → raw ≡ take len rest → IsContents quote raw contents
    → Encloses quote bytes contents (len + 2)
encloses quote bytes rest raw contents len plain e closes same f =
    let size : length (take len rest) ≡ len = length-take-le len rest (omega (arith, closes.within)) in
    let front : take (len + 1) rest ≡ raw ++ quote ∷ [] =
    take_more rest len 0 closes.within ∙ ap (λ (b : ℕ). take len rest ++ b ∷ []) closes.ended ∙ ap (λ (l : List ℕ). l ++ quote ∷ []) (sym same) in
    let count : len + 2 ≡ suc (len + 1) = omega arith in
    let shape : take (len + 2) bytes ≡ quote ∷ (raw ++ quote ∷ []) = ap (take (len + 2)) e ∙ ap (λ (n : ℕ). take n (quote ∷ rest)) count ∙ ap (λ (l : List ℕ). quote ∷ l) front in
    record {
      within = omega (arith, ap length e, closes.within);
      quoted = (raw, shape, f);
      only = λ front back text parts q.
          let t = front_quoted quote bytes rest front back text e parts q in
          let raws : t.raw ≡ take len rest = same_raw quote rest t.raw back len closes t.parts (contents_inside quote t.raw text plain t.contents) in
          omega (arith, ap length t.shape, length-append t.raw (quote ∷ []), ap length raws, size);
    }

-- the same bytes stand for one text
pub same_quoted : (quote : ℕ) (text a b : List ℕ) → IsQuoted quote text a → IsQuoted quote text b → a ≡ b
same_quoted quote text a b (raw, e, f) (raw', e', g) =
    let both : quote ∷ (raw ++ quote ∷ []) ≡ quote ∷ (raw' ++ quote ∷ []) = sym e ∙ e' in
    let same : raw ++ quote ∷ [] ≡ raw' ++ quote ∷ [] = cc in
    same_contents quote raw a b f (subst (λ (l : List ℕ). IsContents quote l b) (sym (append_cancel_right raw raw' (quote ∷ []) same)) g)

-- texts

pub text_class : (bytes : List ℕ) → get_or bytes 0 0 ≡ 34 → class_of (get_or bytes 0 0) ≡ DoubleQuote
text_class bytes e = ap class_of e

pub text_shape : (bytes contents : List ℕ) (len : ℕ) → get_or bytes 0 0 ≡ 34 → Encloses 34 bytes contents len → IsShape bytes (Chars contents) len
text_shape bytes contents len first e = shape bytes (Chars contents) len e.within e.quoted (λ front back kind parts s.
    let (text, q, is) = text_kind front back kind s (admitted bytes front back kind DoubleQuote (text_class bytes first) parts s) in
    omega (arith, e.only front back text parts q))

pub no_text : (bytes : List ℕ) → get_or bytes 0 0 ≡ 34 → ((front back text : List ℕ) → bytes ≡ front ++ back → IsQuoted 34 front text → ⊥) → BeginsNone bytes
no_text bytes first none front back kind parts s =
    let (text, q, is) = text_kind front back kind s (admitted bytes front back kind DoubleQuote (text_class bytes first) parts s) in
    none front back text parts q

-- labels

pub label_class : (bytes : List ℕ) → get_or bytes 0 0 ≡ 39 → class_of (get_or bytes 0 0) ≡ SingleQuote
label_class bytes e = ap class_of e

pub label_shape : (bytes label : List ℕ) (len : ℕ) → get_or bytes 0 0 ≡ 39 → Encloses 39 bytes label len → 1 ≤ length label → IsShape bytes (Quoted label) len
label_shape bytes label len first e some = shape bytes (Quoted label) len e.within (e.quoted, some) (λ front back kind parts s.
    let (text, q, _, is) = label_kind front back kind s (admitted bytes front back kind SingleQuote (label_class bytes first) parts s) in
    omega (arith, e.only front back text parts q))

pub no_label : (bytes : List ℕ) → get_or bytes 0 0 ≡ 39 → ((front back text : List ℕ) → bytes ≡ front ++ back → IsQuoted 39 front text → 1 ≤ length text → ⊥) → BeginsNone bytes
no_label bytes first none front back kind parts s =
    let (text, q, some, is) = label_kind front back kind s (admitted bytes front back kind SingleQuote (label_class bytes first) parts s) in
    none front back text parts q some

-- two quotes with nothing between them
pub empty_label : (bytes label : List ℕ) (len : ℕ) → get_or bytes 0 0 ≡ 39 → Encloses 39 bytes label len → length label ≡ 0 → BeginsNone bytes
empty_label bytes label len first e empty = no_label bytes first (λ front back text parts q some.
    let size = e.only front back text parts q in
    let (fronts, backs) = same_cut front (take len bytes) back (drop len bytes) (size ∙ sym (length-take-le len bytes e.within)) (sym parts ∙ sym (take-append-drop len bytes)) in
    let texts : text ≡ label = same_quoted 39 (take len bytes) text label (subst (λ (l : List ℕ). IsQuoted 39 l text) fronts q) e.quoted in
    omega (arith, ap length texts))
