-- How a gap grows, and that bytes have one gap at their front.
use Rattle.std.proofs.Common.{◌≡◌, ℕ, ◌+◌, ◌<◌, true, false, List, [], ◌∷◌, ◌++◌, length, get_or, take, drop, zero, suc, refl, sym, ap, ◌∙◌, subst, inl, inr, arith, add-one, eqb, eqb-true}
use Rattle.std.proofs.lemmas.List.{append_assoc, take_more, take-append-drop, length-drop}
use Rattle.std.proofs.Math.Seq.{take-add}
use Rattle.std.proofs.lemmas.Bool.{or_parts, and_parts, cases_lt}
use Rattle.lorel_lex.specs.Gaps.{is_blank, IsOnOneLine, IsGap, nothing, blank, comment, IsLastComment, IsBlank, begins_comment, begins_gap}
use Rattle.lorel_lex.specs.inside.Skipping.{EndsLine, SkipsGap}

pub IsGap-append : {front : List ℕ} (back : List ℕ) → IsGap front → IsGap back → IsGap (front ++ back)
IsGap-append back nothing g = g
IsGap-append back (blank byte more b f) g = blank byte (more ++ back) b (IsGap-append back f g)
IsGap-append back (comment body more line f) g =
    subst IsGap (ap (λ (l : List ℕ). 45 ∷ 45 ∷ l) (sym (append_assoc body (10 ∷ more) back))) (comment body (more ++ back) line (IsGap-append back f g))

-- one more blank byte
pub IsGap-blank : (bytes : List ℕ) (at : ℕ) → at < length bytes → IsGap (take at bytes) → is_blank (get_or bytes at 0) ≡ true → IsGap (take (at + 1) bytes)
IsGap-blank bytes at l g b = rw (take_more bytes at 0 l) (IsGap-append (get_or bytes at 0 ∷ []) g (blank (get_or bytes at 0) [] b nothing))

-- where a comment begins, two `-` stand
pub begins_comment-true : (bytes : List ℕ) → begins_comment bytes ≡ true → (more : List ℕ) × (bytes ≡ 45 ∷ 45 ∷ more)
begins_comment-true [] e = absurd (cc)
begins_comment-true (byte ∷ []) e = absurd (cc)
begins_comment-true (byte ∷ next ∷ more) e =
    let both = and_parts (eqb byte 45) (eqb next 45) e in
    let first : byte ≡ 45 = eqb-true byte 45 both.0 in
    let second : next ≡ 45 = eqb-true next 45 both.1 in
    (more, cc)

-- a comment with its line feed is a gap
comment_piece : (more : List ℕ) (len : ℕ) → EndsLine (45 ∷ 45 ∷ more) len → IsGap (take (len + 1) (45 ∷ 45 ∷ more))
comment_piece more zero e = absurd (let byte : 45 ≡ 10 = e.ended in omega arith)
comment_piece more (suc zero) e = absurd (let byte : 45 ≡ 10 = e.ended in omega arith)
comment_piece more (suc (suc n)) e =
    let within : n < length more = omega (arith, e.within) in
    let byte : get_or more n 0 ≡ 10 = e.ended in
    let parts : take (suc n) more ≡ take n more ++ 10 ∷ [] = rw (← add-one) (take_more more n 0 within ∙ ap (λ (b : ℕ). take n more ++ b ∷ []) byte) in
    let piece : IsGap (45 ∷ 45 ∷ take (suc n) more) = rw parts (comment (take n more) [] e.before.1.1 nothing) in
    rw add-one piece

-- one more comment
pub IsGap-comment : (bytes rest : List ℕ) (at len : ℕ) → rest ≡ drop at bytes → IsGap (take at bytes) → begins_comment rest ≡ true → EndsLine rest len
    → IsGap (take (at + (len + 1)) bytes)
IsGap-comment bytes rest at len same g begins e =
    let (more, parts) = begins_comment-true rest begins in
    let piece : IsGap (take (len + 1) (drop at bytes)) = subst (λ (l : List ℕ). IsGap (take (len + 1) l)) (sym parts ∙ same) (comment_piece more len (subst (λ (l : List ℕ). EndsLine l len) parts e)) in
    rw (take-add at (len + 1) bytes) (IsGap-append (take (len + 1) (drop at bytes)) g piece)

-- a comment to the end
pub IsBlank-comment : (bytes rest : List ℕ) (at : ℕ) → rest ≡ drop at bytes → IsGap (take at bytes) → begins_comment rest ≡ true → IsOnOneLine rest → IsBlank bytes
IsBlank-comment bytes rest at same g begins line =
    let (more, parts) = begins_comment-true rest begins in
    let all : IsOnOneLine (45 ∷ 45 ∷ more) = subst IsOnOneLine parts line in
    record {
      gap = take at bytes;
      last = drop at bytes;
      parts = sym (take-append-drop at bytes);
      dropped = g;
      ended = inr (more, sym same ∙ parts, all.1.1);
    }

-- one cut

-- before a line feed stands one line
one_line : (a b x y : List ℕ) → IsOnOneLine a → IsOnOneLine b → a ++ 10 ∷ x ≡ b ++ 10 ∷ y → (a ≡ b) × (x ≡ y)
one_line [] [] x y f g e = (refl, cc)
one_line [] (byte ∷ b) x y f g e = absurd (g.0 (let head : byte ≡ 10 = cc in head))
one_line (byte ∷ a) [] x y f g e = absurd (f.0 (let head : byte ≡ 10 = cc in head))
one_line (byte ∷ a) (other ∷ b) x y f g e =
    let tails : a ++ 10 ∷ x ≡ b ++ 10 ∷ y = cc in
    let (lines, rests) = one_line a b x y f.1 g.1 tails in
    (let head : byte ≡ other = cc in cc, rests)

no_line_feed : (a b x : List ℕ) → IsOnOneLine b → a ++ 10 ∷ x ≡ b → ⊥
no_line_feed [] [] x g e = cc
no_line_feed [] (byte ∷ b) x g e = g.0 (let head : byte ≡ 10 = cc in head)
no_line_feed (byte ∷ a) [] x g e = cc
no_line_feed (byte ∷ a) (other ∷ b) x g e = no_line_feed a b x g.1 (let tails : a ++ 10 ∷ x ≡ b = cc in tails)

-- where no gap begins, none stands
no_gap : {gap : List ℕ} (x : List ℕ) → IsGap gap → begins_gap (gap ++ x) ≡ false → gap ≡ []
no_gap x nothing e = refl
no_gap x (blank byte more b g) e = absurd (let no = (or_parts (is_blank byte) (begins_comment (byte ∷ (more ++ x))) e).0 in cc)
no_gap x (comment body more line g) e = absurd (let no : true ≡ false = e in cc)

blank_dash : (byte : ℕ) → is_blank byte ≡ true → byte ≡ 45 → ⊥
blank_dash byte b e = let no : false ≡ true = rw e at b in cc

-- bytes have one gap before what begins none
pub one_gap : {gap other : List ℕ} (x y : List ℕ) → IsGap gap → IsGap other → begins_gap x ≡ false → begins_gap y ≡ false → gap ++ x ≡ other ++ y → (gap ≡ other) × (x ≡ y)
one_gap {other} x y nothing h f i e = let none = no_gap y h (subst (λ (l : List ℕ). begins_gap l ≡ false) e f) in (sym none, e ∙ ap (λ (l : List ℕ). l ++ y) none)
one_gap {gap} x y g nothing f i e = let none = no_gap x g (subst (λ (l : List ℕ). begins_gap l ≡ false) (sym e) i) in (none, sym (ap (λ (l : List ℕ). l ++ x) none) ∙ e)
one_gap x y (blank byte more b g) (blank byte' more' b' h) f i e =
    let (gaps, rests) = one_gap x y g h f i (let tails : more ++ x ≡ more' ++ y = cc in tails) in
    (let head : byte ≡ byte' = cc in cc, rests)
one_gap x y (blank byte more b g) (comment body' more' line' h) f i e = absurd (blank_dash byte b (let head : byte ≡ 45 = cc in head))
one_gap x y (comment body more line g) (blank byte' more' b' h) f i e = absurd (blank_dash byte' b' (let head : byte' ≡ 45 = cc in head))
one_gap x y (comment body more line g) (comment body' more' line' h) f i e =
    let (lines, tails) = one_line body body' (more ++ x) (more' ++ y) line line'
    (sym (append_assoc body (10 ∷ more) x) ∙ (let inner : (body ++ 10 ∷ more) ++ x ≡ (body' ++ 10 ∷ more') ++ y = cc in inner) ∙ append_assoc body' (10 ∷ more') y) in
    let (gaps, rests) = one_gap x y g h f i tails in
    (let front : body ++ 10 ∷ more ≡ body' ++ 10 ∷ more' = cc in cc, rests)

-- blank bytes hold nothing that begins no gap
gap_to_end : {gap other : List ℕ} (x last : List ℕ) → IsGap gap → IsGap other → begins_gap x ≡ false → 0 < length x → IsLastComment last → gap ++ x ≡ other ++ last → ⊥
gap_to_end x last nothing h f l (inl none) e =
    let empty = no_gap last h (subst (λ (t : List ℕ). begins_gap t ≡ false) e f) in
    let same : x ≡ [] = e ∙ ap (λ (t : List ℕ). t ++ last) empty ∙ none in
    omega (arith, ap length same)
gap_to_end x last nothing h f l (inr comment') e =
    let empty = no_gap last h (subst (λ (t : List ℕ). begins_gap t ≡ false) e f) in
    let same : x ≡ 45 ∷ 45 ∷ comment'.0 = e ∙ ap (λ (t : List ℕ). t ++ last) empty ∙ comment'.1 in
    let no : true ≡ false = subst (λ (t : List ℕ). begins_gap t ≡ false) same f in cc
gap_to_end x last (blank byte more b g) nothing f l (inl none) e = let no : byte ∷ (more ++ x) ≡ [] = e ∙ none in cc
gap_to_end x last (blank byte more b g) nothing f l (inr comment') e =
    blank_dash byte b (let same : byte ∷ (more ++ x) ≡ 45 ∷ 45 ∷ comment'.0 = e ∙ comment'.1 in let head : byte ≡ 45 = cc in head)
gap_to_end x last (blank byte more b g) (blank byte' more' b' h) f l ended e = gap_to_end x last g h f l ended (let tails : more ++ x ≡ more' ++ last = cc in tails)
gap_to_end x last (blank byte more b g) (comment body' more' line' h) f l ended e = blank_dash byte b (let head : byte ≡ 45 = cc in head)
gap_to_end x last (comment body more line g) nothing f l (inl none) e = let no : 45 ∷ 45 ∷ ((body ++ 10 ∷ more) ++ x) ≡ [] = e ∙ none in cc
gap_to_end x last (comment body more line g) nothing f l (inr comment') e =
    let same : 45 ∷ 45 ∷ ((body ++ 10 ∷ more) ++ x) ≡ 45 ∷ 45 ∷ comment'.0 = e ∙ comment'.1 in
    no_line_feed body comment'.0 (more ++ x) comment'.2 (sym (append_assoc body (10 ∷ more) x) ∙ (let tails : (body ++ 10 ∷ more) ++ x ≡ comment'.0 = cc in tails))
gap_to_end x last (comment body more line g) (blank byte' more' b' h) f l ended e = blank_dash byte' b' (let head : byte' ≡ 45 = cc in head)
gap_to_end x last (comment body more line g) (comment body' more' line' h) f l ended e =
    let (lines, tails) = one_line body body' (more ++ x) (more' ++ last) line line'
    (sym (append_assoc body (10 ∷ more) x) ∙ (let inner : (body ++ 10 ∷ more) ++ x ≡ (body' ++ 10 ∷ more') ++ last = cc in inner) ∙ append_assoc body' (10 ∷ more') last) in
    gap_to_end x last g h f l ended tails

pub not_blank : (gap x : List ℕ) → IsGap gap → begins_gap x ≡ false → 0 < length x → IsBlank (gap ++ x) → ⊥
not_blank gap x g f l b = gap_to_end x b.last g b.dropped f l b.ended b.parts

-- all of blank bytes is dropped
pub SkipsGap-blank : (bytes : List ℕ) (len : ℕ) → SkipsGap bytes len → IsBlank bytes → len ≡ length bytes
SkipsGap-blank bytes len s b = elim (cases_lt len (length bytes)) [
  | inl below ↦ absurd (not_blank (take len bytes) (drop len bytes) (s.dropped below) (s.outside below) (omega (arith, length-drop len bytes))
      (subst IsBlank (sym (take-append-drop len bytes)) b))
  | inr above ↦ omega (arith, s.within)
]
