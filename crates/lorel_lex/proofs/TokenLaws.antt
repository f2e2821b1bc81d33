-- How a list of tokens grows, that a chunk has one outcome, and the form of its tokens.
use Rattle.std.proofs.Common.{◌≡◌, ℕ, ◌+◌, ◌-◌, ◌<◌, ◌≤◌, List, [], ◌∷◌, ◌++◌, length, take, drop, Ok, Err, Result, inl, inr, refl, sym, ap, ◌∙◌, subst, arith}
use Rattle.std.specs.List.{All, AllByRecursion}
use Rattle.std.proofs.lemmas.List.{append_assoc, take-append-drop, length-append, length-take-le, length-drop, append-nil, drop-drop, drop_at, drop_all, take_rest}
use Rattle.std.proofs.lemmas.List.Elements.{All-from_recursion}
use Rattle.lore_base.specs.Names.{IsIdentifier}
use Rattle.lorel_lex.specs.Types.{Token, Kind, Word, Wild, PathOf, Number, Local, Chars, Quoted, Symbol, LexFault, NumberRange, TextTooLong}
use Rattle.lorel_lex.specs.Gaps.{nothing, IsBlank, begins_gap}
use Rattle.lorel_lex.specs.inside.Skipping.{SkipsGap}
use Rattle.lorel_tokens.specs.Shapes.{IsPattern, IsToken}
use Rattle.lorel_tokens.specs.Forms.{HasForm}
use Rattle.lorel_lex.specs.Tokens.{Keeps, IsFaultAt, IsPlace, IsNext, AreTokensFrom, AreTokens, IsFaultBehind, HasFault, HasOneOutcome}
use Rattle.lorel_lex.specs.inside.Lexing.{IsShape}
use Rattle.lorel_lex.proofs.GapLaws.{one_gap, not_blank}
use Rattle.lorel_lex.proofs.ClassLaws.{begins_with}
use Rattle.lorel_lex.proofs.KindLaws.{same_first, same_fault, no_fault}

-- the next place

pub a_place : (bytes front : List ℕ) (gap : ℕ) → SkipsGap bytes gap → gap < length bytes → front ≡ drop gap bytes → IsPlace bytes (take gap bytes) front
a_place bytes front gap skips more same =
    record {
      parts = sym (take-append-drop gap bytes) ∙ ap (λ (l : List ℕ). take gap bytes ++ l) (sym same);
      dropped = skips.dropped more;
      outside = ap begins_gap same ∙ skips.outside more;
      some = omega (arith, ap length same, length-drop gap bytes);
    }

-- the next token, found behind the gap
pub next_found : (at : ℕ) (bytes front : List ℕ) (gap len : ℕ) (kind : Kind) → SkipsGap bytes gap → gap < length bytes → front ≡ drop gap bytes → IsShape front kind len
    → ((fault : LexFault) → Keeps fault kind (drop len front)) → IsNext at bytes (record { kind = kind; start = at + gap; end = at + gap + len }) (drop len front)
next_found at bytes front gap len kind skips more same shape kept =
    let size : length (take gap bytes) ≡ gap = length-take-le gap bytes (omega arith) in
    record {
      gap = take gap bytes;
      place = front;
      stands = a_place bytes front gap skips more same;
      first = shape.first;
      kept = kept;
      starts = omega arith;
      ends = omega (arith, ap length shape.first.parts, length-append shape.first.text (drop len front), length-drop len front, shape.within);
    }

-- one outcome

same_token : (token other : Token) → token.kind ≡ other.kind → token.start ≡ other.start → token.end ≡ other.end → token ≡ other
same_token token other kinds starts ends =
    let made : Kind → ℕ → ℕ → Token = λ kind start end. record { kind = kind; start = start; end = end } in
    ap (λ (kind : Kind). made kind token.start token.end) kinds ∙ ap (λ (start : ℕ). made other.kind start token.end) starts
    ∙ ap (λ (end : ℕ). made other.kind other.start end) ends

-- bytes have one next place
pub same_place : (bytes gap place other next : List ℕ) → IsPlace bytes gap place → IsPlace bytes other next → (gap ≡ other) × (place ≡ next)
same_place bytes gap place other next p q = one_gap place next p.dropped q.dropped p.outside q.outside (sym p.parts ∙ q.parts)

pub place_not_blank : (bytes gap place : List ℕ) → IsPlace bytes gap place → IsBlank bytes → ⊥
place_not_blank bytes gap place p blank = not_blank gap place p.dropped p.outside p.some (subst IsBlank p.parts blank)

-- the bytes from a place on have one next token
same_next : (at : ℕ) (bytes rest back : List ℕ) (token other : Token) → IsNext at bytes token rest → IsNext at bytes other back → (token ≡ other) × (rest ≡ back)
same_next at bytes rest back token other n m =
    let (gaps, places) = same_place bytes n.gap n.place m.gap m.place n.stands m.stands in
    let (texts, rests, kinds) = same_first n.place m.place rest back token.kind other.kind places n.first m.first in
    let starts : token.start ≡ other.start = omega (arith, n.starts, m.starts, ap length gaps) in
    let ends : token.end ≡ other.end = omega (arith, n.ends, m.ends, ap length texts) in
    (same_token token other kinds starts ends, rests)

-- where there is a next token, the next place has no fault
token_no_fault : (at : ℕ) (bytes rest gap place : List ℕ) (token : Token) (fault : LexFault) → IsNext at bytes token rest → IsPlace bytes gap place → IsFaultAt fault place → ⊥
token_no_fault at bytes rest gap place token fault n p f =
    let (gaps, places) = same_place bytes n.gap n.place gap place n.stands p in
    no_fault fault n.place rest token.kind n.first n.kept (subst (IsFaultAt fault) (sym places) f)

-- what follows one token follows the other
moved_tokens : (token other : Token) (rest back : List ℕ) (tokens : List Token) → token ≡ other → rest ≡ back → AreTokensFrom other.end back tokens → AreTokensFrom token.end rest tokens
moved_tokens token other rest back tokens heads rests f =
    subst (λ (t : Token). AreTokensFrom t.end rest tokens) (sym heads) (subst (λ (l : List ℕ). AreTokensFrom other.end l tokens) (sym rests) f)

moved_fault : (token other : Token) (rest back : List ℕ) (tokens : List Token) (fault : LexFault) → token ≡ other → rest ≡ back → IsFaultBehind other.end back tokens fault
    → IsFaultBehind token.end rest tokens fault
moved_fault token other rest back tokens fault heads rests f =
    subst (λ (t : Token). IsFaultBehind t.end rest tokens fault) (sym heads) (subst (λ (l : List ℕ). IsFaultBehind other.end l tokens fault) (sym rests) f)

same_tokens : (at : ℕ) (bytes : List ℕ) (tokens others : List Token) → AreTokensFrom at bytes tokens → AreTokensFrom at bytes others → tokens ≡ others
same_tokens at bytes [] [] f g = refl
same_tokens at bytes [] (other ∷ others) f (back, m, g) = absurd (place_not_blank bytes m.gap m.place m.stands f)
same_tokens at bytes (token ∷ tokens) [] (rest, n, f) g = absurd (place_not_blank bytes n.gap n.place n.stands g)
same_tokens at bytes (token ∷ tokens) (other ∷ others) (rest, n, f) (back, m, g) =
    let (heads, rests) = same_next at bytes rest back token other n m in
    let tails : tokens ≡ others = same_tokens token.end rest tokens others f (moved_tokens token other rest back others heads rests g) in
    cc

-- no tokens where there is a fault
tokens_no_fault : (at : ℕ) (bytes : List ℕ) (tokens others : List Token) (fault : LexFault) → AreTokensFrom at bytes tokens → IsFaultBehind at bytes others fault → ⊥
tokens_no_fault at bytes [] [] fault f (gap, place, p, g) = place_not_blank bytes gap place p f
tokens_no_fault at bytes [] (other ∷ others) fault f (back, m, g) = place_not_blank bytes m.gap m.place m.stands f
tokens_no_fault at bytes (token ∷ tokens) [] fault (rest, n, f) (gap, place, p, g) = token_no_fault at bytes rest gap place token fault n p g
tokens_no_fault at bytes (token ∷ tokens) (other ∷ others) fault (rest, n, f) (back, m, g) =
    let (heads, rests) = same_next at bytes rest back token other n m in
    tokens_no_fault token.end rest tokens others fault f (moved_fault token other rest back others fault heads rests g)

same_faults : (at : ℕ) (bytes : List ℕ) (tokens others : List Token) (fault cause : LexFault) → IsFaultBehind at bytes tokens fault → IsFaultBehind at bytes others cause → fault ≡ cause
same_faults at bytes [] [] fault cause (gap, place, p, f) (other, next, q, g) =
    let (gaps, places) = same_place bytes gap place other next p q in
    same_fault fault cause place f (subst (IsFaultAt cause) (sym places) g)
same_faults at bytes [] (other ∷ others) fault cause (gap, place, p, f) (back, m, g) = absurd (token_no_fault at bytes back gap place other fault m p f)
same_faults at bytes (token ∷ tokens) [] fault cause (rest, n, f) (gap, place, p, g) = absurd (token_no_fault at bytes rest gap place token cause n p g)
same_faults at bytes (token ∷ tokens) (other ∷ others) fault cause (rest, n, f) (back, m, g) =
    let (heads, rests) = same_next at bytes rest back token other n m in
    same_faults token.end rest tokens others fault cause f (moved_fault token other rest back others cause heads rests g)

chunk_no_fault : (chunk : List ℕ) (tokens : List Token) (fault : LexFault) → AreTokens chunk tokens → HasFault chunk fault → ⊥
chunk_no_fault chunk tokens fault f (inl (bad, binary)) = binary f.utf8
chunk_no_fault chunk tokens fault f (inr (utf8, others, g)) = tokens_no_fault 0 chunk tokens others fault f.all g

chunk_fault : (chunk : List ℕ) (fault cause : LexFault) → HasFault chunk fault → HasFault chunk cause → fault ≡ cause
chunk_fault chunk fault cause (inl (bad, binary)) (inl (bad', binary')) = bad ∙ sym bad'
chunk_fault chunk fault cause (inl (bad, binary)) (inr (utf8, others, g)) = absurd (binary utf8)
chunk_fault chunk fault cause (inr (utf8, tokens, f)) (inl (bad, binary)) = absurd (binary utf8)
chunk_fault chunk fault cause (inr (utf8, tokens, f)) (inr (utf8', others, g)) = same_faults 0 chunk tokens others fault cause f g

pub one_outcome : HasOneOutcome
one_outcome chunk (Ok tokens) (Ok others) f g = let ok : List Token → Result (List Token) LexFault = λ l. Ok l in ap ok (same_tokens 0 chunk tokens others f.all g.all)
one_outcome chunk (Ok tokens) (Err fault) f g = absurd (chunk_no_fault chunk tokens fault f g)
one_outcome chunk (Err fault) (Ok others) f g = absurd (chunk_no_fault chunk others fault g f)
one_outcome chunk (Err fault) (Err cause) f g = let err : LexFault → Result (List Token) LexFault = λ e. Err e in ap err (chunk_fault chunk fault cause f g)

-- one token more

-- what is left behind the next token
pub record Leaves (at end : ℕ) (chunk rest : List ℕ) : Type 0 where
  pub rest_is : rest ≡ drop end chunk
  pub within : end ≤ length chunk
  pub further : at < end

pub token_length : (text rest : List ℕ) (kind : Kind) → IsToken text rest kind → 0 < length text
token_length text rest kind s = let b = begins_with text rest kind s in omega (arith, ap length b.parts)

pub next_leaves : (at : ℕ) (chunk rest : List ℕ) (token : Token) → at ≤ length chunk → IsNext at (drop at chunk) token rest → Leaves at token.end chunk rest
next_leaves at chunk rest token within n =
    let text = n.first.text in
    let cut : drop at chunk ≡ (n.gap ++ text) ++ rest = n.stands.parts ∙ ap (λ (l : List ℕ). n.gap ++ l) n.first.parts ∙ sym (append_assoc n.gap text rest) in
    let size = ap length cut in
    let front = length-append n.gap text in
    let all = length-append (n.gap ++ text) rest in
    let behind : drop (length n.gap + length text) (drop at chunk) ≡ rest = ap (drop (length n.gap + length text)) cut ∙ drop_at (n.gap ++ text) rest (length n.gap + length text) front in
    let place : at + (length n.gap + length text) ≡ token.end = omega (arith, n.starts, n.ends) in
    record {
      rest_is = sym behind ∙ drop-drop (length n.gap + length text) at chunk ∙ ap (λ (k : ℕ). drop k chunk) place;
      within = omega (arith, size, all, front, n.starts, n.ends, length-drop at chunk);
      further = omega (arith, n.starts, n.ends, token_length text rest token.kind n.first.token);
    }

pub next_shorter : (at : ℕ) (bytes rest : List ℕ) (token : Token) → IsNext at bytes token rest → length rest < length bytes
next_shorter at bytes rest token n =
    omega (arith, ap length n.stands.parts, length-append n.gap n.place, ap length n.first.parts, length-append n.first.text rest, token_length n.first.text rest token.kind n.first.token)

-- what completes the tokens so far
pub record GoesOnFrom (at : ℕ) (chunk : List ℕ) (tokens : List Token) : Type 0 where
  pub within : at ≤ length chunk
  pub whole : (more : List Token) → AreTokensFrom at (drop at chunk) more → AreTokensFrom 0 chunk (tokens ++ more)
  pub faulty : (more : List Token) (fault : LexFault) → IsFaultBehind at (drop at chunk) more fault → IsFaultBehind 0 chunk (tokens ++ more) fault

pub GoesOnFrom-more : (at : ℕ) (chunk rest : List ℕ) (token : Token) (tokens : List Token) → IsNext at (drop at chunk) token rest → GoesOnFrom at chunk tokens → GoesOnFrom token.end chunk (tokens ++ token ∷ [])
GoesOnFrom-more at chunk rest token tokens n g =
    let leaves = next_leaves at chunk rest token g.within n in
    record {
      within = leaves.within;
      whole = λ more f. subst (AreTokensFrom 0 chunk) (sym (append_assoc tokens (token ∷ []) more))
          (g.whole (token ∷ more) (rest, n, subst (λ (l : List ℕ). AreTokensFrom token.end l more) (sym leaves.rest_is) f));
      faulty = λ more fault f. subst (λ (l : List Token). IsFaultBehind 0 chunk l fault) (sym (append_assoc tokens (token ∷ []) more))
          (g.faulty (token ∷ more) fault (rest, n, subst (λ (l : List ℕ). IsFaultBehind token.end l more fault) (sym leaves.rest_is) f));
    }

-- forms

kind_form : (text rest : List ℕ) (kind : Kind) → IsToken text rest kind → ((fault : LexFault) → Keeps fault kind rest) → HasForm kind
kind_form text rest (Word word) s k = (subst IsIdentifier (sym s.1) s.0, k TextTooLong)
kind_form text rest (Wild pattern) s k = (subst IsPattern (sym s.1) s.0, k TextTooLong)
kind_form text rest PathOf s k = tt
kind_form text rest (Number number) s k = k NumberRange
kind_form text rest (Local local) s k = k NumberRange
kind_form text rest (Chars contents) s k = k TextTooLong
kind_form text rest (Quoted label) s k = (s.1, k TextTooLong)
kind_form text rest (Symbol sign) s k = tt

forms : (at : ℕ) (bytes : List ℕ) (tokens : List Token) → AreTokensFrom at bytes tokens → AllByRecursion (λ (token : Token). HasForm token.kind) tokens
forms at bytes [] f = tt
forms at bytes (token ∷ tokens) (rest, n, f) = (kind_form n.first.text rest token.kind n.first.token n.kept, forms token.end rest tokens f)

-- each token of a chunk has its form
pub formed : (chunk : List ℕ) (tokens : List Token) → AreTokens chunk tokens → All (λ token. HasForm token.kind) tokens
formed chunk tokens f = All-from_recursion (λ (token : Token). HasForm token.kind) tokens (forms 0 chunk tokens f.all)

-- what the code cuts out

pub gap_behind : (chunk : List ℕ) (at gap : ℕ) → SkipsGap (take (length chunk - at) (drop at chunk)) gap → SkipsGap (drop at chunk) gap
gap_behind chunk at gap skips = subst (λ (l : List ℕ). SkipsGap l gap) (take_rest chunk at) skips

pub front_behind : (chunk : List ℕ) (at gap : ℕ) → take (length chunk - (at + gap)) (drop (at + gap) chunk) ≡ drop gap (drop at chunk)
front_behind chunk at gap = take_rest chunk (at + gap) ∙ sym (drop-drop gap at chunk)

-- the end

pub blank_behind : (chunk : List ℕ) (at : ℕ) → length chunk ≤ at → IsBlank (drop at chunk)
blank_behind chunk at l =
    let none : IsBlank [] = record { gap = []; last = []; parts = refl; dropped = nothing; ended = inl refl } in
    subst IsBlank (sym (drop_all at chunk l)) none

pub all_found : (at : ℕ) (chunk : List ℕ) (tokens : List Token) → GoesOnFrom at chunk tokens → IsBlank (drop at chunk) → AreTokensFrom 0 chunk tokens
all_found at chunk tokens g blank = subst (AreTokensFrom 0 chunk) (append-nil tokens) (g.whole [] blank)

pub fault_found : (at : ℕ) (chunk : List ℕ) (tokens : List Token) (fault : LexFault) → GoesOnFrom at chunk tokens → IsFaultBehind at (drop at chunk) [] fault → IsFaultBehind 0 chunk (tokens ++ []) fault
fault_found at chunk tokens fault g f = g.faulty [] fault f
