-- How a scan goes on behind more bytes, and that a script has one cut.
use Rattle.std.proofs.Common.{◌≡◌, ℕ, ◌+◌, ◌-◌, ◌<◌, ◌≤◌, arith, Bool, true, false, List, [], ◌∷◌, ◌++◌, length, get_or, take, drop, refl, sym, ap, ◌∙◌, subst, eqb, eqb-true, inl, inr}
use Rattle.std.specs.Prelude.{not}
use Rattle.std.specs.List.{AllByRecursion, list_all}
use Rattle.lore_base.specs.Chunks.{joined_chunks}
use Rattle.std.proofs.lemmas.List.{append_assoc, append-nil, length-append, length-drop, take_more, take_all, take_rest}
use Rattle.std.proofs.Math.Seq.{take-add}
use Rattle.std.proofs.lemmas.List.Elements.{recursion_from_All, All-from_recursion}
use Rattle.std.proofs.lemmas.List.Folds.{list_all-append}
use Rattle.std.proofs.lemmas.Bool.{cases_Bool, and_parts, and_from, not-true}
use Rattle.lorel_lex.specs.declared.scan.State.{State}
use Rattle.lorel_lex.specs.declared.scan.State.TheVariants.{Plain, Dash, Comment, Text, TextEscape, Quoted, QuotedEscape}
use Rattle.lorel_lex.specs.Scan.{is_end, state_after, scanned, GoesOn, IsOpen, IsChunk, IsScript, HasOneCut, HasSomeCut}
use Rattle.lorel_lex.specs.inside.Scanning.{EndsAt, StaysOpen, StaysStill, is_neither, is_plain}

pub scanned-append : (state : State) (front back : List ℕ) → scanned state (front ++ back) ≡ scanned (scanned state front) back
scanned-append state [] back = refl
scanned-append state (byte ∷ front) back = scanned-append (state_after state byte) front back

pub GoesOn-append : (state : State) (front back : List ℕ) → GoesOn state front → GoesOn (scanned state front) back → GoesOn state (front ++ back)
GoesOn-append state [] back f b = b
GoesOn-append state (byte ∷ front) back f b = (f.0, GoesOn-append (state_after state byte) front back f.1 b)

-- so far none of the bytes ends the chunk, and this is the state behind them
pub record ScansTo (from state : State) (bytes : List ℕ) (at : ℕ) : Type 0 where
  pub within : at ≤ length bytes
  pub unended : GoesOn from (take at bytes)
  pub reached : state ≡ scanned from (take at bytes)

-- behind bytes that leave the state as it is
pub ScansTo-still : (from state : State) (bytes : List ℕ) (at len : ℕ) → ScansTo from state bytes at → StaysStill state (drop at bytes) len
    → ScansTo from state bytes (at + len)
ScansTo-still from state bytes at len s still = record {
  within = omega (arith, still.within, length-drop at bytes, s.within);
  unended = rw (take-add at len bytes)
      (GoesOn-append from (take at bytes) (take len (drop at bytes)) s.unended (subst (λ (t : State). GoesOn t (take len (drop at bytes))) s.reached still.all));
  reached = sym still.still ∙ ap (λ (t : State). scanned t (take len (drop at bytes))) s.reached
      ∙ sym (scanned-append from (take at bytes) (take len (drop at bytes))) ∙ sym (ap (scanned from) (take-add at len bytes));
}

pub still_behind : (state : State) (bytes : List ℕ) (at len : ℕ) → StaysStill state (take (length bytes - at) (drop at bytes)) len
    → StaysStill state (drop at bytes) len
still_behind state bytes at len still = subst (λ (l : List ℕ). StaysStill state l len) (take_rest bytes at) still

-- behind one more byte
pub ScansTo-byte : (from state : State) (bytes : List ℕ) (at : ℕ) → ScansTo from state bytes at → at < length bytes → is_end state (get_or bytes at 0) ≡ false
    → ScansTo from (state_after state (get_or bytes at 0)) bytes (at + 1)
ScansTo-byte from state bytes at s l e = record {
  within = omega arith;
  unended = rw (take_more bytes at 0 l) (GoesOn-append from (take at bytes) (get_or bytes at 0 ∷ []) s.unended (rw s.reached at e, tt));
  reached = ap (λ (t : State). state_after t (get_or bytes at 0)) s.reached
      ∙ sym (ap (scanned from) (take_more bytes at 0 l) ∙ scanned-append from (take at bytes) (get_or bytes at 0 ∷ []));
}

pub scan_ends : (from state : State) (bytes : List ℕ) (at : ℕ) → ScansTo from state bytes at → at < length bytes → is_end state (get_or bytes at 0) ≡ true
    → EndsAt from bytes at
scan_ends from state bytes at s l e = record { within = l; before = s.unended; ended = rw s.reached at e }

pub scan_open : (from state : State) (bytes : List ℕ) (at : ℕ) → ScansTo from state bytes at → length bytes ≤ at → StaysOpen from bytes state
scan_open from state bytes at s l = record {
  all = subst (λ (b : List ℕ). GoesOn from b) (take_all at bytes l) s.unended;
  reached = s.reached ∙ ap (scanned from) (take_all at bytes l);
}

-- bytes that leave the state as it is

Stills : State → (ℕ → Bool) → Type 0
Stills state test = (byte : ℕ) → test byte ≡ true → (is_end state byte ≡ false) × (state_after state byte ≡ state)

still_all : (state : State) (test : ℕ → Bool) (bytes : List ℕ) → Stills state test → list_all test bytes ≡ true → GoesOn state bytes × (scanned state bytes ≡ state)
unfolding Stills
still_all state test [] keeps e = (tt, refl)
still_all state test (byte ∷ bytes) keeps e =
    let both = and_parts (test byte) (list_all test bytes) e in
    let (unended, same) = keeps byte both.0 in
    let (more, reached) = still_all state test bytes keeps both.1 in
    ((unended, subst (λ (s : State). GoesOn s bytes) (sym same) more), ap (λ (s : State). scanned s bytes) same ∙ reached)

stays : (state : State) (test : ℕ → Bool) (bytes : List ℕ) (len : ℕ) → Stills state test → len ≤ length bytes → list_all test (take len bytes) ≡ true
    → StaysStill state bytes len
stays state test bytes len keeps within e =
    let both = still_all state test (take len bytes) keeps e in record { within = within; all = both.0; still = both.1 }

neither : (one other byte : ℕ) → is_neither one other byte ≡ true → (eqb byte one ≡ false) × (eqb byte other ≡ false)
neither one other byte e =
    let both = and_parts (not (eqb byte one)) (not (eqb byte other)) e in (not-true (eqb byte one) both.0, not-true (eqb byte other) both.1)

plain_stills : Stills Plain is_plain
unfolding Stills
plain_stills byte e =
    let both = and_parts (is_neither 34 39 byte) (is_neither 45 59 byte) e in
    let (double, single) = neither 34 39 byte both.0 in
    let (dash, semicolon) = neither 45 59 byte both.1 in
    (semicolon, rw (dash, double, single) refl)

comment_stills : Stills Comment (is_neither 10 10)
unfolding Stills
comment_stills byte e = let (feed, _) = neither 10 10 byte e in (refl, rw feed refl)

text_stills : Stills Text (is_neither 34 92)
unfolding Stills
text_stills byte e = let (quote, slash) = neither 34 92 byte e in (refl, rw (quote, slash) refl)

quoted_stills : Stills Quoted (is_neither 39 92)
unfolding Stills
quoted_stills byte e = let (quote, slash) = neither 39 92 byte e in (refl, rw (quote, slash) refl)

-- bytes that pass behind bytes that pass
pub passed_behind : (test : ℕ → Bool) (bytes : List ℕ) (at len : ℕ) → list_all test (take at bytes) ≡ true → list_all test (take len (drop at bytes)) ≡ true
    → list_all test (take (at + len) bytes) ≡ true
passed_behind test bytes at len front back =
    ap (list_all test) (take-add at len bytes) ∙ list_all-append test (take at bytes) (take len (drop at bytes))
    ∙ and_from (list_all test (take at bytes)) (list_all test (take len (drop at bytes))) front back

pub plain_still : (bytes : List ℕ) (len : ℕ) → len ≤ length bytes → list_all is_plain (take len bytes) ≡ true → StaysStill Plain bytes len
plain_still bytes len = stays Plain is_plain bytes len plain_stills

pub comment_still : (bytes : List ℕ) (len : ℕ) → len ≤ length bytes → list_all (is_neither 10 10) (take len bytes) ≡ true → StaysStill Comment bytes len
comment_still bytes len = stays Comment (is_neither 10 10) bytes len comment_stills

pub text_still : (bytes : List ℕ) (len : ℕ) → len ≤ length bytes → list_all (is_neither 34 92) (take len bytes) ≡ true → StaysStill Text bytes len
text_still bytes len = stays Text (is_neither 34 92) bytes len text_stills

pub quoted_still : (bytes : List ℕ) (len : ℕ) → len ≤ length bytes → list_all (is_neither 39 92) (take len bytes) ≡ true → StaysStill Quoted bytes len
quoted_still bytes len = stays Quoted (is_neither 39 92) bytes len quoted_stills

-- only a `;` ends a chunk
pub is_end-true : (state : State) (byte : ℕ) → is_end state byte ≡ true → byte ≡ 59
is_end-true Plain byte e = eqb-true byte 59 e
is_end-true Dash byte e = eqb-true byte 59 e
is_end-true Comment byte e = absurd (cc)
is_end-true Text byte e = absurd (cc)
is_end-true TextEscape byte e = absurd (cc)
is_end-true Quoted byte e = absurd (cc)
is_end-true QuotedEscape byte e = absurd (cc)

-- two chunks at the front of the same bytes are one
pub same_chunk : (state : State) (a b x y : List ℕ) → GoesOn state a → is_end (scanned state a) 59 ≡ true → GoesOn state b → is_end (scanned state b) 59 ≡ true
    → a ++ 59 ∷ x ≡ b ++ 59 ∷ y → (a ≡ b) × (x ≡ y)
same_chunk state [] [] x y f e g h same = (refl, cc)
same_chunk state [] (byte ∷ b) x y f e g h same = absurd (let head : 59 ≡ byte = cc in let end : is_end state byte ≡ true = rw (← head) e in let open' = g.0 in cc)
same_chunk state (byte ∷ a) [] x y f e g h same = absurd (let head : byte ≡ 59 = cc in let end : is_end state byte ≡ true = rw head h in let open' = f.0 in cc)
same_chunk state (byte ∷ a) (other ∷ b) x y f e g h same =
    let head : byte ≡ other = cc in
    let tails : a ++ 59 ∷ x ≡ b ++ 59 ∷ y = cc in
    let g' : GoesOn (state_after state byte) b = rw head g.1 in
    let h' : is_end (scanned (state_after state byte) b) 59 ≡ true = rw head h in
    let (fronts, backs) = same_chunk (state_after state byte) a b x y f.1 e g' h' tails in
    (cc, backs)

-- a chunk and its `;` are no open bytes
pub chunk_ends : (state : State) (a x rest : List ℕ) → GoesOn state a → is_end (scanned state a) 59 ≡ true → GoesOn state rest → a ++ 59 ∷ x ≡ rest → ⊥
chunk_ends state [] x [] f e g same = cc
chunk_ends state [] x (byte ∷ rest) f e g same = let head : 59 ≡ byte = cc in let end : is_end state byte ≡ true = rw (← head) e in let open' = g.0 in cc
chunk_ends state (byte ∷ a) x [] f e g same = cc
chunk_ends state (byte ∷ a) x (other ∷ rest) f e g same =
    let head : byte ≡ other = cc in
    let tails : a ++ 59 ∷ x ≡ rest = cc in
    let g' : GoesOn (state_after state byte) rest = rw head g.1 in
    chunk_ends (state_after state byte) a x rest f.1 e g' tails

pub regrouped : (chunk more rest : List ℕ) → ((chunk ++ 59 ∷ []) ++ more) ++ rest ≡ chunk ++ 59 ∷ (more ++ rest)
regrouped chunk more rest = simp append_assoc

same_cut : (chunks others : List (List ℕ)) (rest other : List ℕ) → AllByRecursion IsChunk chunks → AllByRecursion IsChunk others → IsOpen rest → IsOpen other
    → joined_chunks chunks ++ rest ≡ joined_chunks others ++ other → (chunks ≡ others) × (rest ≡ other)
same_cut [] [] rest other f g u v same = (refl, same)
same_cut [] (b ∷ others) rest other f g u v same =
    absurd (chunk_ends Plain b (joined_chunks others ++ other) rest g.0.unended g.0.ended u
    (sym (regrouped b (joined_chunks others) other) ∙ sym same))
same_cut (a ∷ chunks) [] rest other f g u v same =
    absurd (chunk_ends Plain a (joined_chunks chunks ++ rest) other f.0.unended f.0.ended v
    (sym (regrouped a (joined_chunks chunks) rest) ∙ same))
same_cut (a ∷ chunks) (b ∷ others) rest other f g u v same =
    let (heads, tails) = same_chunk Plain a b (joined_chunks chunks ++ rest) (joined_chunks others ++ other)
    f.0.unended f.0.ended g.0.unended g.0.ended
    (sym (regrouped a (joined_chunks chunks) rest) ∙ same ∙ regrouped b (joined_chunks others) other) in
    let (more, rests) = same_cut chunks others rest other f.1 g.1 u v tails in
    (cc, rests)

pub one_cut : HasOneCut
one_cut script rest other chunks others s t =
    same_cut chunks others rest other (recursion_from_All IsChunk chunks s.each) (recursion_from_All IsChunk others t.each) s.unended t.unended (sym s.whole ∙ t.whole)

-- bytes that no `;` ends lie in the first chunk, or in the rest where there is no chunk

abbrev pub first_part : List (List ℕ) → List ℕ → List ℕ
first_part [] rest = rest
first_part (chunk ∷ chunks) rest = chunk

pub chunk_holds : (state : State) (chunk front x back : List ℕ) → is_end (scanned state chunk) 59 ≡ true → GoesOn state front → chunk ++ 59 ∷ x ≡ front ++ back → length front ≤ length chunk
chunk_holds state chunk [] x back e g same = omega arith
chunk_holds state [] (byte ∷ front) x back e g same =
    absurd (let head : 59 ≡ byte = cc in let end : is_end state byte ≡ true = rw (← head) e in let open' = g.0 in cc)
chunk_holds state (first ∷ chunk) (byte ∷ front) x back e g same =
    let head : first ≡ byte = cc in
    let tails : chunk ++ 59 ∷ x ≡ front ++ back = cc in
    let g' : GoesOn (state_after state first) front = rw head g.1 in
    omega (arith, chunk_holds (state_after state first) chunk front x back e g' tails)

pub open_front : (front back rest : List ℕ) (chunks : List (List ℕ)) → IsOpen front → IsScript (front ++ back) chunks rest → length front ≤ length (first_part chunks rest)
open_front front back rest [] g s = omega (arith, ap length s.whole, length-append front back)
open_front front back rest (chunk ∷ chunks) g s =
    let whole = sym (regrouped chunk (joined_chunks chunks) rest) ∙ sym s.whole in
    let first = (recursion_from_All IsChunk (chunk ∷ chunks) s.each).0 in
    chunk_holds Plain chunk front (joined_chunks chunks ++ rest) back first.ended g whole

-- a script has a cut

-- a chunk, its `;` and a script behind them
script_more : (chunk bytes rest : List ℕ) (chunks : List (List ℕ)) → IsChunk chunk → IsScript bytes chunks rest
    → IsScript (chunk ++ 59 ∷ bytes) (chunk ∷ chunks) rest
script_more chunk bytes rest chunks c s = record {
  whole = ap (λ (l : List ℕ). chunk ++ 59 ∷ l) s.whole ∙ sym (regrouped chunk (joined_chunks chunks) rest);
  each = All-from_recursion IsChunk (chunk ∷ chunks) (c, recursion_from_All IsChunk chunks s.each);
  unended = s.unended;
}

-- the cut of bytes of a chunk that none of them ends, and what follows
cut_behind : (held bytes : List ℕ) → IsOpen held → (chunks : List (List ℕ)) × (rest : List ℕ) × IsScript (held ++ bytes) chunks rest
cut_behind held [] unended = ([], held, record { whole = append-nil held; each = All-from_recursion IsChunk [] tt; unended = unended })
cut_behind held (byte ∷ bytes) unended = elim (cases_Bool (is_end (scanned Plain held) byte)) [
  | inl ends ↦
      let semicolon : byte ≡ 59 = is_end-true (scanned Plain held) byte ends in
      let (chunks, rest, s) = cut_behind [] bytes tt in
      let chunk : IsChunk held = record { unended = unended; ended = subst (λ (b : ℕ). is_end (scanned Plain held) b ≡ true) semicolon ends } in
      let whole = script_more held bytes rest chunks chunk s in
      (held ∷ chunks, rest, subst (λ (b : ℕ). IsScript (held ++ b ∷ bytes) (held ∷ chunks) rest) (sym semicolon) whole)
  | inr other ↦
      let more : IsOpen (held ++ byte ∷ []) = GoesOn-append Plain held (byte ∷ []) unended (other, tt) in
      let (chunks, rest, s) = cut_behind (held ++ byte ∷ []) bytes more in
      (chunks, rest, subst (λ (l : List ℕ). IsScript l chunks rest) (append_assoc held (byte ∷ []) bytes) s)
]

pub some_cut : HasSomeCut
some_cut script = cut_behind [] script tt
