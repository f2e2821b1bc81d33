-- The turns of a run through one piece of the script.
use Rattle.std.proofs.Common.{◌≡◌, inl, inr, true≢false, ℕ, ◌+◌, ◌-◌, ◌≤◌, true, false, List, [], ◌∷◌, ◌++◌, length, take, drop, Option, refl, sym, ap, ◌∙◌, subst, append_assoc, arith, take-add, length-append}
use Rattle.std.proofs.lemmas.List.{take_rest, take-append-drop}
use Rattle.std.proofs.Math.Seq.{take-append_seam}
use Rattle.lore_db.specs.States.{State}
use Rattle.lore_base.specs.declared.limits.TheConstants.{CHUNK_BYTES}
use Rattle.lorel_lex.specs.Scan.{IsChunk}
use Rattle.lorel_lex.specs.Progress.{Progress}
use Rattle.lorel_lex.specs.Chunks.{GoesOnWith, EndsChunk, IsTooLong, PassesLimit}
use Rattle.lore_run.specs.Runs.{chunk}
use Rattle.lore_run.specs.declared.status.Status.{Status}
use Rattle.lore_run.specs.declared.status.Status.TheVariants.{Done, DoneRefused, Usage, ReadFault, WriteFault, StatementTooLong, NoMemory, ScriptTooLong}
use Rattle.lore_run.specs.declared.tally.Tally.{Tally}
use Rattle.lore_run.specs.inside.Turns.{Standing, standing, IsUnended, Replied, Advances, StopsReplying, StopsIn}
use Rattle.lore_run.proofs.RunLaws.{advances_held, advances_chunk, advances_then, RepliedInPart-held, Unmoved-held}

-- a reader that hasn't failed stops at a chunk that is too long
pub too_long : (old : Progress) (piece : List ℕ) → old.failed ≡ false → PassesLimit old piece → IsTooLong old.held piece
too_long old piece unfailed (inl failed) = absurd (true≢false (sym failed ∙ unfailed))
too_long old piece unfailed (inr long) = long

-- what is left of a piece from a place on
abbrev pub tail_from : ℕ → List ℕ → List ℕ
tail_from at piece = take (length piece - at) (drop at piece)

pub front_and_tail : (at : ℕ) (piece : List ℕ) → piece ≡ take at piece ++ tail_from at piece
front_and_tail at piece = sym (ap (λ l. take at piece ++ l) (take_rest piece at) ∙ take-append-drop at piece)

-- what is left of the piece ends no chunk
pub advances_more : (before : Standing) (old new : Progress) (tally : Tally) (written : Option (List ℕ)) (db : State) (reads : ℕ) (piece : List ℕ) (at used : ℕ)
    → Advances before (take at piece) (standing old.held tally written db reads) → GoesOnWith old (tail_from at piece) used new
    → Advances before piece (standing new.held tally written db reads)
advances_more before old new tally written db reads piece at used advanced more =
    subst (λ (l : List ℕ). Advances before l (standing new.held tally written db reads)) (sym (front_and_tail at piece))
    (advances_then advanced (advances_held old.held (tail_from at piece) (standing new.held tally written db reads) (ap (λ (p : Progress). p.held) more.held)))

-- a chunk ends in what is left of the piece
chunk_is : (old fed : Progress) (piece text : List ℕ) (used : ℕ) → (ends : EndsChunk old piece used fed) → fed ≡ record { held = text; whole = true; failed = fed.failed } → old.held ++ ends.front ≡ text
chunk_is old fed piece text used ends waits = sym (ap (λ (p : Progress). p.held) ends.held) ∙ ap (λ (p : Progress). p.held) waits

used_is : (front back piece : List ℕ) (used : ℕ) → piece ≡ front ++ 59 ∷ back → used ≡ length front + 1 → take used piece ≡ front ++ 59 ∷ []
used_is front back piece used parts uses =
    let split : piece ≡ (front ++ 59 ∷ []) ++ back = parts ∙ sym (append_assoc front (59 ∷ []) back) in
    let count : used ≡ length (front ++ 59 ∷ []) = omega (arith, uses, length-append front (59 ∷ [])) in
    ap (λ (n : ℕ). take n piece) count ∙ ap (λ (l : List ℕ). take (length (front ++ 59 ∷ [])) l) split ∙ take-append_seam (front ++ 59 ∷ []) back

next_front : (at used : ℕ) (piece front : List ℕ) → take used (tail_from at piece) ≡ front → take (at + used) piece ≡ take at piece ++ front
next_front at used piece front is = take-add at used piece ∙ ap (λ l. take at piece ++ l) (sym (ap (λ l. take used l) (take_rest piece at)) ∙ is)

pub advances_whole : (before : Standing) (old fed after : Progress) (text : List ℕ) (tally new_tally : Tally) (written new_written : Option (List ℕ)) (db new_db : State) (reads new_reads : ℕ) (piece : List ℕ) (at used : ℕ)
    → Advances before (take at piece) (standing old.held tally written db reads) → EndsChunk old (tail_from at piece) used fed
    → fed ≡ record { held = text; whole = true; failed = fed.failed } → after ≡ record { held = []; whole = false; failed = fed.failed }
    → Replied (standing [] tally written db reads) (chunk text) (standing [] new_tally new_written new_db new_reads)
    → Advances before (take (at + used) piece) (standing after.held new_tally new_written new_db new_reads)
advances_whole before old fed after text tally new_tally written new_written db new_db reads new_reads piece at used advanced ends waits taken replied =
    let same = chunk_is old fed (tail_from at piece) text used ends waits in
    let step = advances_chunk old.held ends.front (standing [] tally written db reads) (standing [] new_tally new_written new_db new_reads) refl ends.chunk ends.sized
    (subst (λ (l : List ℕ). Replied (standing [] tally written db reads) (chunk l) (standing [] new_tally new_written new_db new_reads)) (sym same) replied) in
    let front = next_front at used piece (ends.front ++ 59 ∷ []) (used_is ends.front ends.back (tail_from at piece) used ends.parts ends.uses) in
    let there = subst (λ (l : List ℕ). Advances before l (standing [] new_tally new_written new_db new_reads)) (sym front) (advances_then advanced step) in
    subst (λ (held : List ℕ). Advances before (take (at + used) piece) (standing held new_tally new_written new_db new_reads)) (sym (ap (λ (p : Progress). p.held) taken)) there

pub stops_no_memory : (before : Standing) (old : Progress) (held : List ℕ) (tally : Tally) (written : Option (List ℕ)) (db : State) (reads : ℕ) (piece : List ℕ) (at : ℕ)
    → Advances before (take at piece) (standing old.held tally written db reads) → IsUnended old.held → StopsIn NoMemory before piece (standing held tally written db reads)
stops_no_memory before old held tally written db reads piece at advanced kept = record {
  front = take at piece;
  back = tail_from at piece;
  parts = front_and_tail at piece;
  middle = standing old.held tally written db reads;
  held = kept;
  advanced = advanced;
  stopped = record { tally = refl; written = refl; state = refl };
}

-- a chunk that is too long
pub stops_too_long : (before : Standing) (old : Progress) (held : List ℕ) (tally : Tally) (written : Option (List ℕ)) (db : State) (reads : ℕ) (piece : List ℕ) (at : ℕ)
    → Advances before (take at piece) (standing old.held tally written db reads) → IsUnended old.held → IsTooLong old.held (tail_from at piece)
    → StopsIn StatementTooLong before piece (standing held tally written db reads)
stops_too_long before old held tally written db reads piece at advanced kept long = record {
  front = take at piece;
  back = tail_from at piece;
  parts = front_and_tail at piece;
  middle = standing old.held tally written db reads;
  held = kept;
  advanced = advanced;
  stopped = (long, record { tally = refl; written = refl; state = refl }, refl);
}

-- and at the reply to a chunk
pub stops_replying : (status : Status) (before : Standing) (old fed : Progress) (held text : List ℕ) (tally new_tally : Tally) (written new_written : Option (List ℕ)) (db new_db : State) (reads new_reads : ℕ) (piece : List ℕ) (at used : ℕ)
    → Advances before (take at piece) (standing old.held tally written db reads) → IsUnended old.held → EndsChunk old (tail_from at piece) used fed
    → fed ≡ record { held = text; whole = true; failed = fed.failed }
    → StopsReplying status (standing [] tally written db reads) (chunk text) (standing [] new_tally new_written new_db new_reads)
    → StopsIn status before piece (standing held new_tally new_written new_db new_reads)
stops_replying WriteFault before old fed held text tally new_tally written new_written db new_db reads new_reads piece at used advanced kept ends waits stops =
    let same = chunk_is old fed (tail_from at piece) text used ends waits in
    record {
      front = take at piece;
      back = tail_from at piece;
      parts = front_and_tail at piece;
      middle = standing old.held tally written db reads;
      held = kept;
      advanced = advanced;
      stopped = record {
        text = text;
        behind = ends.back;
        parts = ap (λ l. old.held ++ l) ends.parts ∙ sym (append_assoc old.held ends.front (59 ∷ ends.back)) ∙ ap (λ l. l ++ 59 ∷ ends.back) same ∙ sym (append_assoc text (59 ∷ []) ends.back);
        ended = subst IsChunk same ends.chunk;
        sized = subst (λ (l : List ℕ). length l ≤ CHUNK_BYTES) same ends.sized;
        fewer = omega (arith, ap length ends.parts, length-append ends.front (59 ∷ ends.back));
        replied = RepliedInPart-held old.held held stops;
      };
    }
stops_replying NoMemory before old fed held text tally new_tally written new_written db new_db reads new_reads piece at used advanced kept ends waits stops = record {
  front = take at piece;
  back = tail_from at piece;
  parts = front_and_tail at piece;
  middle = standing old.held tally written db reads;
  held = kept;
  advanced = advanced;
  stopped = Unmoved-held old.held held stops;
}
stops_replying Done before old fed held text tally new_tally written new_written db new_db reads new_reads piece at used advanced kept ends waits stops = absurd stops
stops_replying DoneRefused before old fed held text tally new_tally written new_written db new_db reads new_reads piece at used advanced kept ends waits stops = absurd stops
stops_replying Usage before old fed held text tally new_tally written new_written db new_db reads new_reads piece at used advanced kept ends waits stops = absurd stops
stops_replying ReadFault before old fed held text tally new_tally written new_written db new_db reads new_reads piece at used advanced kept ends waits stops = absurd stops
stops_replying StatementTooLong before old fed held text tally new_tally written new_written db new_db reads new_reads piece at used advanced kept ends waits stops = absurd stops
stops_replying ScriptTooLong before old fed held text tally new_tally written new_written db new_db reads new_reads piece at used advanced kept ends waits stops = absurd stops
