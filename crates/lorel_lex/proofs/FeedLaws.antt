-- What a reader is seen as behind each way of `feed`.
use Rattle.std.proofs.Common.{◌≡◌, ℕ, ◌+◌, ◌-◌, ◌<◌, ◌≤◌, Bool, true, false, List, ◌∷◌, ◌++◌, length, get_or, take, drop, Option, Some, None, refl, sym, ap, ◌∙◌, subst, inr, arith}
use Rattle.std.specs.Prelude.{unwrap_or, is_some}
use Rattle.std.proofs.lemmas.List.{length-append, length-take-le, take-append-drop, drop_more}
use Rattle.lorel_lex.specs.Types.{CHUNK_BYTES}
use Rattle.lorel_lex.specs.declared.scan.State.{State}
use Rattle.lorel_lex.specs.declared.scan.State.TheVariants.{Plain}
use Rattle.lorel_lex.specs.Progress.{Progress, holds}
use Rattle.lorel_lex.specs.Scan.{is_end, scanned, GoesOn, IsOpen, IsChunk}
use Rattle.lorel_lex.specs.declared.chunk_reader.FedState.TheVariants.{More, Whole, TooLong}
use Rattle.lorel_lex.specs.Chunks.{IsTooLong, Feeds}
use Rattle.lorel_lex.specs.inside.Scanning.{EndsAt}
use Rattle.lorel_lex.proofs.ScanLaws.{GoesOn-append, scanned-append, is_end-true}

-- a reader with these fields, as contracts see it
abbrev pub seen : Option (List ℕ) → List ℕ → Bool → Progress
seen ready held failed = record { held = unwrap_or ready held; whole = is_some ready; failed = failed }

pub held_is : (old : Progress) (ready : Option (List ℕ)) (held : List ℕ) (failed : Bool) → seen ready held failed ≡ old → old.whole ≡ false → old.held ≡ held
held_is old None held failed e h = ap (λ (p : Progress). p.held) (sym e)
held_is old (Some chunk) held failed e h = absurd (let waits : true ≡ old.whole = ap (λ (p : Progress). p.whole) e in cc)

pub failed_is : (old : Progress) (ready : Option (List ℕ)) (held : List ℕ) (failed : Bool) → seen ready held failed ≡ old → old.failed ≡ failed
failed_is old ready held failed e = ap (λ (p : Progress). p.failed) (sym e)

pub seen-failed : (old : Progress) (ready : Option (List ℕ)) (held : List ℕ) (failed : Bool) → seen ready held failed ≡ old → old.whole ≡ false
    → seen ready held true ≡ record { held = old.held; whole = false; failed = true }
seen-failed old None held failed e h = ap (λ (p : Progress). let q : Progress = record { held = p.held; whole = false; failed = true } in q) e
seen-failed old (Some chunk) held failed e h = absurd (let waits : true ≡ old.whole = ap (λ (p : Progress). p.whole) e in cc)

pub seen-more : (old : Progress) (ready : Option (List ℕ)) (held new piece : List ℕ) (failed : Bool) → seen ready held failed ≡ old → old.whole ≡ false → failed ≡ false
    → new ≡ held ++ piece → seen ready new failed ≡ holds (old.held ++ piece)
seen-more old None held new piece failed e h f n =
    let first : seen None new failed ≡ holds (held ++ piece) = cc in first ∙ ap (λ (p : Progress). holds (p.held ++ piece)) e
seen-more old (Some chunk) held new piece failed e h f n = absurd (let waits : true ≡ old.whole = ap (λ (p : Progress). p.whole) e in cc)

pub unended_more : (state : State) (held piece : List ℕ) → IsOpen held → state ≡ scanned Plain held → GoesOn state piece → IsOpen (held ++ piece)
unended_more state held piece open' e g = GoesOn-append Plain held piece open' (rw e at g)

pub reached_more : (state after : State) (held piece : List ℕ) → state ≡ scanned Plain held → after ≡ scanned state piece → after ≡ scanned Plain (held ++ piece)
reached_more state after held piece e f = f ∙ ap (λ (s : State). scanned s piece) e ∙ sym (scanned-append Plain held piece)

pub too_long : (held piece : List ℕ) (state : State) (at : ℕ) → IsOpen held → state ≡ scanned Plain held → at ≤ length piece → GoesOn state (take at piece)
    → CHUNK_BYTES - length held < at → IsTooLong held piece
too_long held piece state at open' e l g over = record {
  front = take at piece;
  back = drop at piece;
  parts = sym (take-append-drop at piece);
  unended = unended_more state held (take at piece) open' e g;
  oversized = omega (arith, length-append held (take at piece), length-take-le at piece l);
}

-- the three ways on

pub feeds_too_long : (old : Progress) (ready : Option (List ℕ)) (held piece : List ℕ) (failed : Bool) → seen ready held failed ≡ old → old.whole ≡ false
    → IsTooLong held piece → Feeds TooLong old piece 0 (seen ready held true)
feeds_too_long old ready held piece failed e h long =
    (inr (subst (λ (bytes : List ℕ). IsTooLong bytes piece) (sym (held_is old ready held failed e h)) long), refl, seen-failed old ready held failed e h)

pub feeds_more : (old : Progress) (ready : Option (List ℕ)) (held new piece : List ℕ) (failed : Bool) → seen ready held failed ≡ old → old.whole ≡ false → failed ≡ false
    → new ≡ held ++ piece → IsOpen (held ++ piece) → length held ≤ CHUNK_BYTES → length piece ≤ CHUNK_BYTES - length held
    → Feeds More old piece (length piece) (seen ready new failed)
feeds_more old ready held new piece failed e h f n unended small fits =
    let same = held_is old ready held failed e h in
    record {
      unfailed = failed_is old ready held failed e ∙ f;
      uses = refl;
      held = seen-more old ready held new piece failed e h f n;
      unended = subst (λ (bytes : List ℕ). IsOpen (bytes ++ piece)) (sym same) unended;
      sized = subst (λ (bytes : List ℕ). length (bytes ++ piece) ≤ CHUNK_BYTES) (sym same) (omega (arith, length-append held piece));
    }

pub feeds_whole : (old : Progress) (ready : Option (List ℕ)) (held new piece chunk : List ℕ) (failed : Bool) (state : State) (at : ℕ) → seen ready held failed ≡ old → old.whole ≡ false → failed ≡ false
    → IsOpen held → state ≡ scanned Plain held → EndsAt state piece at → chunk ≡ held ++ take at piece → length held ≤ CHUNK_BYTES → at ≤ CHUNK_BYTES - length held
    → Feeds Whole old piece (at + 1) (seen (Some chunk) new failed)
feeds_whole old ready held new piece chunk failed state at e h f unended reached ends n small fits =
    let same = held_is old ready held failed e h in
    let byte : get_or piece at 0 ≡ 59 = is_end-true (scanned state (take at piece)) (get_or piece at 0) ends.ended in
    let len : length (take at piece) ≡ at = length-take-le at piece (omega (arith, ends.within)) in
    let chunk' : IsChunk (held ++ take at piece) = record {
      unended = unended_more state held (take at piece) unended reached ends.before;
      ended = subst (λ (s : State). is_end s 59 ≡ true) (reached_more state (scanned state (take at piece)) held (take at piece) reached refl)
          (subst (λ (b : ℕ). is_end (scanned state (take at piece)) b ≡ true) byte ends.ended);
    } in
    record {
      front = take at piece;
      back = drop (at + 1) piece;
      unfailed = failed_is old ready held failed e ∙ f;
      parts = sym (take-append-drop at piece) ∙ ap (λ (bytes : List ℕ). take at piece ++ bytes) (drop_more piece at 0 ends.within ∙ ap (λ (b : ℕ). b ∷ drop (at + 1) piece) byte);
      uses = omega (arith, len);
      held = let first : seen (Some chunk) new failed ≡ record { held = held ++ take at piece; whole = true; failed = false } = cc in
          first ∙ ap (λ (bytes : List ℕ). let p : Progress = record { held = bytes ++ take at piece; whole = true; failed = false } in p) (sym same);
      chunk = subst (λ (bytes : List ℕ). IsChunk (bytes ++ take at piece)) (sym same) chunk';
      sized = subst (λ (bytes : List ℕ). length (bytes ++ take at piece) ≤ CHUNK_BYTES) (sym same) (omega (arith, length-append held (take at piece), len));
    }

-- where no whole chunk waits, none is kept
pub none_waits : (old : Progress) (ready : Option (List ℕ)) (held : List ℕ) (failed : Bool) → seen ready held failed ≡ old → old.whole ≡ false → ready ≡ None
none_waits old None held failed e h = refl
none_waits old (Some chunk) held failed e h = absurd (let waits : true ≡ old.whole = ap (λ (p : Progress). p.whole) e in cc)
