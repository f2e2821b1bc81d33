-- What a run comes to at each of its ends.
use Rattle.std.proofs.Common.{◌≡◌, ℕ, ◌+◌, ◌≤◌, ◌<◌, ◌⊎◌, inl, inr, List, [], ◌∷◌, ◌++◌, length, map, take, Option, None, Some, refl, sym, ap, ◌∙◌, subst, append_assoc, append-nil, arith, lit<, length-append}
use Rattle.std.specs.Prelude.{IfSome}
use Rattle.std.specs.Io.KnownBytes.{Appends, Consumes, Keeps, IsAtEnd}
use Rattle.std.proofs.lemmas.List.{map-append, length-map}
use Rattle.std.proofs.lemmas.List.Elements.{All-append}
use Rattle.lore_base.specs.Chunks.{joined_chunks}
use Rattle.lore_run.specs.Types.{SCRIPT_BYTES}
use Rattle.lore_base.specs.Causes.{Rose}
use Rattle.lore_db.specs.States.{State, new_state}
use Rattle.lorel_lex.specs.Scan.{IsChunk, IsScript}
use Rattle.lorel_lex.specs.Gaps.{IsBlank}
use Rattle.lore_run.specs.Replies.{reply_text}
use Rattle.lore_run.specs.Runs.{refusals, BeginsWith, ScriptPart, chunk, rest, EndsInRest, Runs, RunState, RepliesTo, RepliesToAll}
use Rattle.lore_run.specs.Reads.{RunReads}
use Rattle.lore_run.specs.declared.pieces.TheConstants.{PIECE_BYTES}
use Rattle.lore_run.specs.declared.status.Outcome.{Outcome}
use Rattle.lore_run.specs.declared.status.Status.{Status}
use Rattle.lore_run.specs.declared.status.Status.TheVariants.{Done, DoneRefused, Usage, ReadFault, WriteFault, StatementTooLong, NoMemory, ScriptTooLong}
use Rattle.lore_run.specs.Endings.{Outside, outside, state_of, KeepsLimits, HasLongChunk, FailsInReply, Ends, RunEnds, EndsWell, IsCausedBySource, IsCausedBySink}
use Rattle.lore_run.specs.declared.tally.Tally.{Tally}
use Rattle.lore_run.specs.inside.Turns.{Standing, standing, beginning, IsUnended, Replied, RepliedInPart, Unmoved, Advances, StopsIn, FinishesWhole, Finishes, RunsSoFar, outcome_at}
use Rattle.lore_base.proofs.PutLaws.{Appends-then}
use Rattle.lore_run.proofs.LimitLaws.{IsWithin, keeps_up_to, keeps_limits, long_chunk_more}
use Rattle.lore_run.proofs.RunLaws.{runs_then, joined-append, joined-one, All-one, Consumes-then, Consumes-kept, advances_then}

-- from the new database on, these bytes were taken, and what stands behind their chunks is held
abbrev pub Reaches : Option (List ℕ) → ℕ → List ℕ → Standing → Type 0
Reaches written began taken now = Advances (beginning written began) taken now

-- the chunks of what was taken
begins : {written : Option (List ℕ)} {began : ℕ} {taken : List ℕ} {now : Standing} (back : List ℕ) → (reached : Reaches written began taken now)
    → BeginsWith (taken ++ back) reached.chunks (now.held ++ back)
begins {now = now} back reached = record {
  whole = ap (λ l. l ++ back) reached.whole ∙ append_assoc (joined_chunks reached.chunks) now.held back;
  each = reached.each;
}

cut : {written : Option (List ℕ)} {began : ℕ} {taken : List ℕ} {now : Standing} → (reached : Reaches written began taken now) → IsUnended now.held → IsScript taken reached.chunks now.held
cut reached kept = record { whole = reached.whole; each = reached.each; unended = kept.unended }

-- they were replied to
replies : {written : Option (List ℕ)} {began : ℕ} {taken : List ℕ} {now : Standing} (status : Status) (all : List ℕ) → (reached : Reaches written began taken now)
    → RepliesTo (map chunk reached.chunks) (state_of (outcome_at status now) all reached.printed now.state)
replies {now = now} status all reached = record {
  counted = omega (arith, reached.done, length-map reached.chunks chunk);
  ran = subst (λ (n : ℕ). Runs new_state (map chunk reached.chunks) reached.printed n now.state) (let same : reached.count ≡ now.tally.refused = omega (arith, reached.refused) in same) reached.ran;
}

-- a run that a read fault ends
pub ends_read_fault : (before : Outside) (began count : ℕ) (left new_left : Option (List ℕ)) (now : Standing) → RunsSoFar before began count left now → Keeps left new_left
    → RunEnds (outcome_at ReadFault now) now.state before (outside new_left now.written)
ends_read_fault before began count left new_left now so_far keeps =
    let reached = so_far.advanced in
    record {
      taken = so_far.taken;
      written = reached.printed;
      took = Consumes-kept before.left left new_left so_far.taken so_far.took keeps;
      wrote = reached.written;
      ends = (
        record { chunks = reached.chunks; behind = now.held; cut = cut reached so_far.held; replied = replies ReadFault so_far.taken reached },
        keeps_limits so_far.taken now.held reached.chunks (record { whole = reached.whole; each = reached.each }) reached.sized so_far.held.sized
            (omega (arith, so_far.counted, so_far.within)),
      );
    }

-- one byte more than a script may have
one_byte : (piece : List ℕ) → length piece ≡ 1 → (byte : ℕ) × (piece ≡ byte ∷ [])
one_byte [] one = absurd (omega (arith, one))
one_byte (byte ∷ []) one = (byte, refl)
one_byte (byte ∷ (other ∷ others)) one = absurd (omega (arith, one))

pub ends_too_long : (before : Outside) (began count : ℕ) (left new_left : Option (List ℕ)) (now : Standing) (piece : List ℕ) → RunsSoFar before began count left now
    → count ≡ SCRIPT_BYTES → Consumes left new_left piece → length piece ≡ 1
    → RunEnds (outcome_at ScriptTooLong now) now.state before (outside new_left now.written)
ends_too_long before began count left new_left now piece so_far full took one =
    let reached = so_far.advanced in
    let (byte, is) = one_byte piece one in
    record {
      taken = so_far.taken ++ piece;
      written = reached.printed;
      took = Consumes-then before.left left new_left so_far.taken piece so_far.took took;
      wrote = reached.written;
      ends = record {
        before = so_far.taken;
        byte = byte;
        taken = ap (λ l. so_far.taken ++ l) is;
        full = sym so_far.counted ∙ full;
        within = keeps_limits so_far.taken now.held reached.chunks (record { whole = reached.whole; each = reached.each }) reached.sized so_far.held.sized
            (omega (arith, so_far.counted, so_far.within));
        replied = record { chunks = reached.chunks; behind = now.held; cut = cut reached so_far.held; replied = replies ScriptTooLong (so_far.taken ++ piece) reached };
      };
    }

-- nothing moved behind what was reached
reaches_unmoved : {written : Option (List ℕ)} {began : ℕ} {taken : List ℕ} {now after : Standing} → Reaches written began taken now → Unmoved now after → Reaches written began taken (record after { held = now.held; reads = now.reads })
reaches_unmoved {written} {began} {taken} {now} {after} reached unmoved = record {
  chunks = reached.chunks;
  printed = reached.printed;
  count = reached.count;
  whole = reached.whole;
  each = reached.each;
  sized = reached.sized;
  ran = subst (λ (db : State). Runs new_state (map chunk reached.chunks) reached.printed reached.count db) (sym unmoved.state) reached.ran;
  read = subst (λ (db : State). RunReads new_state (map chunk reached.chunks) db began now.reads) (sym unmoved.state) reached.read;
  done = ap (λ (t : Tally). t.done) unmoved.tally ∙ reached.done;
  refused = ap (λ (t : Tally). t.refused) unmoved.tally ∙ reached.refused;
  written = subst (λ (w : Option (List ℕ)). Appends written w reached.printed) (sym unmoved.written) reached.written;
}

-- a sink that fails in the reply of a chunk, or of the rest
fails_in_reply : {written : Option (List ℕ)} {began : ℕ} {taken : List ℕ} {now after : Standing} (all : List ℕ) (left : Option (List ℕ)) (last : ScriptPart) (behind : List ℕ)
    → (reached : Reaches written began taken now) → (replied : RepliedInPart now last after) → length behind < PIECE_BYTES
    → ((chunks : List (List ℕ)) × BeginsWith all chunks behind × (map chunk reached.chunks ++ last ∷ [] ≡ map chunk chunks)) ⊎ (EndsInRest all (map chunk reached.chunks ++ last ∷ []) × IsAtEnd left × (behind ≡ []))
    → FailsInReply (state_of (outcome_at WriteFault after) all (reached.printed ++ take replied.printed.count (reply_text after.state replied.reply)) after.state) left
fails_in_reply {written} {began} {taken} {now} {after} all left last behind reached replied few first = record {
  earlier = map chunk reached.chunks;
  last = last;
  behind = behind;
  first = first;
  at_hand = few;
  bytes = reached.printed;
  count = reached.count;
  before = now.state;
  ran = reached.ran;
  reply = replied.reply;
  yielded = replied.yielded;
  done = omega (arith, replied.done, reached.done, length-map reached.chunks chunk);
  refused = omega (arith, replied.refused, reached.refused);
  kept = replied.printed.count;
  part = replied.printed.part;
  written = refl;
}

-- a run that a piece stops
pub ends_stopped : (status : Status) (before : Outside) (began count : ℕ) (left new_left : Option (List ℕ)) (now after : Standing) (piece : List ℕ) → RunsSoFar before began count left now
    → Consumes left new_left piece → count + length piece ≤ SCRIPT_BYTES → length piece ≤ PIECE_BYTES → StopsIn status now piece after
    → RunEnds (outcome_at status after) after.state before (outside new_left after.written)
ends_stopped WriteFault before began count left new_left now after piece so_far took few at_hand stops =
    let reached : Reaches before.written began (so_far.taken ++ stops.front) stops.middle = advances_then so_far.advanced stops.advanced in
    let fails = stops.stopped in
    let all = so_far.taken ++ piece in
    let parts : all ≡ (so_far.taken ++ stops.front) ++ stops.back = ap (λ l. so_far.taken ++ l) stops.parts ∙ sym (append_assoc so_far.taken stops.front stops.back) in
    let chunks = reached.chunks ++ fails.text ∷ [] in
    let bytes = reply_text after.state fails.replied.reply in
    let begun : BeginsWith all chunks fails.behind = record {
      whole = parts ∙ (begins stops.back reached).whole ∙ ap (λ l. joined_chunks reached.chunks ++ l) fails.parts
          ∙ sym (append_assoc (joined_chunks reached.chunks) (fails.text ++ 59 ∷ []) fails.behind)
          ∙ ap (λ l. l ++ fails.behind) (ap (λ l. joined_chunks reached.chunks ++ l) (sym (joined-one fails.text)) ∙ sym (joined-append reached.chunks (fails.text ∷ [])));
      each = All-append IsChunk reached.chunks (fails.text ∷ []) reached.each (All-one IsChunk fails.text fails.ended);
    } in
    let less : length fails.behind < PIECE_BYTES = omega (arith, fails.fewer, ap length stops.parts, length-append stops.front stops.back, at_hand) in
    record {
      taken = all;
      written = reached.printed ++ take fails.replied.printed.count bytes;
      took = Consumes-then before.left left new_left so_far.taken piece so_far.took took;
      wrote = Appends-then before.written stops.middle.written after.written reached.printed (take fails.replied.printed.count bytes) reached.written fails.replied.printed.written;
      ends = (
        fails_in_reply all new_left (chunk fails.text) fails.behind reached fails.replied less
            (inl (chunks, begun, sym (map-append chunk reached.chunks (fails.text ∷ [])))),
        keeps_limits all fails.behind chunks begun
            (All-append IsWithin reached.chunks (fails.text ∷ []) reached.sized (All-one IsWithin fails.text fails.sized))
            (omega (arith, less)) (omega (arith, so_far.counted, few, length-append so_far.taken piece)),
      );
    }
ends_stopped StatementTooLong before began count left new_left now after piece so_far took few at_hand stops =
    let (long, unmoved, reads) = stops.stopped in
    let reached = reaches_unmoved (advances_then so_far.advanced stops.advanced) unmoved in
    let all = so_far.taken ++ piece in
    let parts : all ≡ (so_far.taken ++ stops.front) ++ stops.back = ap (λ l. so_far.taken ++ l) stops.parts ∙ sym (append_assoc so_far.taken stops.front stops.back) in
    let begun : BeginsWith all reached.chunks (stops.middle.held ++ stops.back) = record { whole = parts ∙ (begins stops.back reached).whole; each = reached.each } in
    record {
      taken = all;
      written = reached.printed;
      took = Consumes-then before.left left new_left so_far.taken piece so_far.took took;
      wrote = reached.written;
      ends = record {
        chunks = reached.chunks;
        replied = replies StatementTooLong all reached;
        long = record {
          front = stops.middle.held ++ long.front;
          further = long.back;
          begun = record {
            whole = begun.whole ∙ ap (λ l. joined_chunks reached.chunks ++ l) (ap (λ l. stops.middle.held ++ l) long.parts ∙ sym (append_assoc stops.middle.held long.front long.back));
            each = reached.each;
          };
          unended = long.unended;
          oversized = long.oversized;
        };
        within = keeps_up_to all (stops.middle.held ++ stops.back) reached.chunks after.tally.done begun reached.sized (omega (arith, reached.done))
            (omega (arith, so_far.counted, few, length-append so_far.taken piece));
      };
    }
ends_stopped NoMemory before began count left new_left now after piece so_far took few at_hand stops =
    let reached = reaches_unmoved (advances_then so_far.advanced stops.advanced) stops.stopped in
    let all = so_far.taken ++ piece in
    let parts : all ≡ (so_far.taken ++ stops.front) ++ stops.back = ap (λ l. so_far.taken ++ l) stops.parts ∙ sym (append_assoc so_far.taken stops.front stops.back) in
    let begun : BeginsWith all reached.chunks (stops.middle.held ++ stops.back) = record { whole = parts ∙ (begins stops.back reached).whole; each = reached.each } in
    record {
      taken = all;
      written = reached.printed;
      took = Consumes-then before.left left new_left so_far.taken piece so_far.took took;
      wrote = reached.written;
      ends = (
        record { chunks = reached.chunks; behind = stops.middle.held ++ stops.back; begun = begun; replied = replies NoMemory all reached },
        keeps_up_to all (stops.middle.held ++ stops.back) reached.chunks after.tally.done begun reached.sized (omega (arith, reached.done))
            (omega (arith, so_far.counted, few, length-append so_far.taken piece)),
      );
    }
ends_stopped Done before began count left new_left now after piece so_far took few at_hand stops = absurd stops.stopped
ends_stopped DoneRefused before began count left new_left now after piece so_far took few at_hand stops = absurd stops.stopped
ends_stopped Usage before began count left new_left now after piece so_far took few at_hand stops = absurd stops.stopped
ends_stopped ReadFault before began count left new_left now after piece so_far took few at_hand stops = absurd stops.stopped
ends_stopped ScriptTooLong before began count left new_left now after piece so_far took few at_hand stops = absurd stops.stopped

-- all parts of a script that was taken whole, and the bytes that their replies have
record AllReplied (written : Option (List ℕ)) (taken : List ℕ) (status : Status) (after : Standing) : Type 0 where
  pub printed : List ℕ
  pub wrote : Appends written after.written printed
  pub replied : RepliesToAll (state_of (outcome_at status after) taken printed after.state)

with_rest : {written : Option (List ℕ)} {began : ℕ} {taken : List ℕ} {now : Standing} → (reached : Reaches written began taken now) → IsUnended now.held → (IsBlank now.held → ⊥)
    → EndsInRest taken (map chunk reached.chunks ++ rest ∷ [])
with_rest {now = now} reached kept filled = record { chunks = reached.chunks; behind = now.held; cut = cut reached kept; filled = filled; listed = refl }

all_replied : {written : Option (List ℕ)} {began : ℕ} {taken : List ℕ} {now after : Standing} (status : Status) → Reaches written began taken now → IsUnended now.held → FinishesWhole now after
    → AllReplied written taken status after
all_replied {written} {began} {taken} {now} {after} status reached kept (inl (blank, unmoved, reads)) =
    let there = reaches_unmoved reached unmoved in
    record {
      printed = there.printed;
      wrote = there.written;
      replied = record {
        parts = map chunk there.chunks;
        listed = record { chunks = there.chunks; behind = now.held; cut = cut there kept; listed = inl (blank, refl) };
        replied = replies status taken there;
      };
    }
all_replied {written} {began} {taken} {now} {after} status reached kept (inr (filled, replied)) =
    let bytes = reply_text after.state replied.reply in
    record {
      printed = reached.printed ++ (bytes ++ []);
      wrote = Appends-then written now.written after.written reached.printed (bytes ++ []) reached.written
          (subst (λ (l : List ℕ). Appends now.written after.written l) (sym (append-nil bytes)) replied.printed);
      replied = record {
        parts = map chunk reached.chunks ++ rest ∷ [];
        listed = record { chunks = reached.chunks; behind = now.held; cut = cut reached kept; listed = inr (filled, refl) };
        replied = record {
          counted = omega (arith, replied.done, reached.done, length-map reached.chunks chunk, length-append (map chunk reached.chunks) (rest ∷ []));
          ran = subst (λ (n : ℕ). Runs new_state (map chunk reached.chunks ++ rest ∷ []) (reached.printed ++ (bytes ++ [])) n after.state)
              (let same : reached.count + (refusals replied.reply + 0) ≡ after.tally.refused = omega (arith, replied.refused, reached.refused) in same)
              (runs_then new_state (map chunk reached.chunks) reached.printed reached.count now.state (rest ∷ []) (bytes ++ []) (refusals replied.reply + 0) after.state
              reached.ran (replied.reply, after.state, [], 0, replied.yielded, (refl, refl, refl), refl, refl));
        };
      };
    }

-- a run whose script was taken whole
took_all : (before : Outside) (left new_left : Option (List ℕ)) (taken : List ℕ) → Consumes before.left left taken → Consumes left new_left [] → Consumes before.left new_left taken
took_all before left new_left taken took none =
    subst (λ (l : List ℕ). Consumes before.left new_left l) (append-nil taken) (Consumes-then before.left left new_left taken [] took none)

-- a script is finished so at any count of reads, since nothing is read
module _ (held : List ℕ) (tally later : Tally) (written wrote : Option (List ℕ)) (db : State) (reads : ℕ) where
  abbrev from_at : ℕ → Standing
  from_at count = standing held tally written db count

  abbrev to_at : ℕ → Standing
  to_at count = standing held later wrote db count

  replied_at : Replied (from_at 0) rest (to_at 0) → Replied (from_at reads) rest (to_at reads)
  replied_at g = record {
    reply = g.reply;
    yielded = g.yielded;
    read = (g.read.0, g.read.1, refl);
    done = g.done;
    refused = g.refused;
    printed = g.printed;
  }

  broken_at : RepliedInPart (from_at 0) rest (to_at 0) → RepliedInPart (from_at reads) rest (to_at reads)
  broken_at g = record {
    reply = g.reply;
    yielded = g.yielded;
    read = (g.read.0, g.read.1, refl);
    done = g.done;
    refused = g.refused;
    printed = g.printed;
  }

  whole_at : FinishesWhole (from_at 0) (to_at 0) → FinishesWhole (from_at reads) (to_at reads)
  whole_at (inl (blank, unmoved, same)) =
      inl (blank, record { tally = unmoved.tally; written = unmoved.written; state = unmoved.state }, refl)
  whole_at (inr (filled, replied)) = inr (filled, replied_at replied)

  pub finishes_at : (status : Status) → Finishes status (from_at 0) (to_at 0) → Finishes status (from_at reads) (to_at reads)
  finishes_at Done finishes = (whole_at finishes.0, finishes.1)
  finishes_at DoneRefused finishes = (whole_at finishes.0, finishes.1)
  finishes_at WriteFault finishes = (finishes.0, broken_at finishes.1)
  finishes_at Usage finishes = absurd finishes
  finishes_at ReadFault finishes = absurd finishes
  finishes_at StatementTooLong finishes = absurd finishes
  finishes_at NoMemory finishes = absurd finishes
  finishes_at ScriptTooLong finishes = absurd finishes

kept_limits : (before : Outside) (began count : ℕ) (left : Option (List ℕ)) (now : Standing) → (so_far : RunsSoFar before began count left now) → KeepsLimits so_far.taken
kept_limits before began count left now so_far =
    keeps_limits so_far.taken now.held so_far.advanced.chunks (record { whole = so_far.advanced.whole; each = so_far.advanced.each }) so_far.advanced.sized so_far.held.sized
    (omega (arith, so_far.counted, so_far.within))

pub ends_finished : (status : Status) (before : Outside) (began count : ℕ) (left new_left : Option (List ℕ)) (now after : Standing) → RunsSoFar before began count left now
    → Consumes left new_left [] → IsAtEnd new_left → Finishes status now after
    → RunEnds (outcome_at status after) after.state before (outside new_left after.written)
ends_finished Done before began count left new_left now after so_far none at_end finishes =
    let all = all_replied Done so_far.advanced so_far.held finishes.0 in
    record {
      taken = so_far.taken;
      written = all.printed;
      took = took_all before left new_left so_far.taken so_far.took none;
      wrote = all.wrote;
      ends = (all.replied, kept_limits before began count left now so_far, at_end, finishes.1);
    }
ends_finished DoneRefused before began count left new_left now after so_far none at_end finishes =
    let all = all_replied DoneRefused so_far.advanced so_far.held finishes.0 in
    record {
      taken = so_far.taken;
      written = all.printed;
      took = took_all before left new_left so_far.taken so_far.took none;
      wrote = all.wrote;
      ends = (all.replied, kept_limits before began count left now so_far, at_end, finishes.1);
    }
ends_finished WriteFault before began count left new_left now after so_far none at_end finishes =
    let (filled, replied) = finishes in
    let reached = so_far.advanced in
    let bytes = reply_text after.state replied.reply in
    record {
      taken = so_far.taken;
      written = reached.printed ++ take replied.printed.count bytes;
      took = took_all before left new_left so_far.taken so_far.took none;
      wrote = Appends-then before.written now.written after.written reached.printed (take replied.printed.count bytes) reached.written replied.printed.written;
      ends = (
        fails_in_reply so_far.taken new_left rest [] reached replied (lit< tt) (inr (with_rest reached so_far.held filled, at_end, refl)),
        kept_limits before began count left now so_far,
      );
    }
ends_finished Usage before began count left new_left now after so_far none at_end finishes = absurd finishes
ends_finished ReadFault before began count left new_left now after so_far none at_end finishes = absurd finishes
ends_finished StatementTooLong before began count left new_left now after so_far none at_end finishes = absurd finishes
ends_finished NoMemory before began count left new_left now after so_far none at_end finishes = absurd finishes
ends_finished ScriptTooLong before began count left new_left now after so_far none at_end finishes = absurd finishes

-- within the limits of the script a run ends well
ends_well : (status : Status) (run : RunState) (left : Option (List ℕ)) (script back : List ℕ) (read_before read_now written_before written_now : ℕ) → Ends status run left
    → script ≡ run.taken ++ back → KeepsLimits script → IsCausedBySource status read_before read_now → IsCausedBySink status written_before written_now
    → EndsWell status (Rose read_before read_now) (Rose written_before written_now)
ends_well Done run left script back read_before read_now written_before written_now ends parts keeps source sink = tt
ends_well DoneRefused run left script back read_before read_now written_before written_now ends parts keeps source sink = tt
ends_well Usage run left script back read_before read_now written_before written_now ends parts keeps source sink = absurd ends
ends_well ReadFault run left script back read_before read_now written_before written_now ends parts keeps source sink = source
ends_well WriteFault run left script back read_before read_now written_before written_now ends parts keeps source sink = sink
ends_well StatementTooLong run left script back read_before read_now written_before written_now ends parts keeps source sink =
    absurd (keeps.chunks ends.chunks (subst (λ (l : List ℕ). HasLongChunk l ends.chunks) (sym parts) (long_chunk_more run.taken back ends.chunks ends.long)))
ends_well NoMemory run left script back read_before read_now written_before written_now ends parts keeps source sink = tt
ends_well ScriptTooLong run left script back read_before read_now written_before written_now ends parts keeps source sink =
    absurd (omega (arith, keeps.bytes, ap length parts, length-append run.taken back, ap length ends.taken, length-append ends.before (ends.byte ∷ []), ends.full))

-- what holds of each script that begins with what was taken holds of the one that was left
pub told_front : (left new_left : Option (List ℕ)) (taken : List ℕ) (P : List ℕ → Type 0) → Consumes left new_left taken → ((script back : List ℕ) → script ≡ taken ++ back → P script) → IfSome left P
told_front None new_left taken P took holds = tt
told_front (Some script) None taken P took holds = absurd took
told_front (Some script) (Some left) taken P took holds = holds script left took

pub ends_complete : (outcome : Outcome) (db : State) (before after : Outside) (read_before read_now written_before written_now : ℕ) → RunEnds outcome db before after
    → IsCausedBySource outcome.status read_before read_now → IsCausedBySink outcome.status written_before written_now
    → IfSome before.left (λ script. KeepsLimits script → EndsWell outcome.status (Rose read_before read_now) (Rose written_before written_now))
ends_complete outcome db before after read_before read_now written_before written_now run source sink =
    told_front before.left after.left run.taken (λ script. KeepsLimits script → EndsWell outcome.status (Rose read_before read_now) (Rose written_before written_now)) run.took
    (λ script back parts keeps. ends_well outcome.status (state_of outcome run.taken run.written db) after.left script back read_before read_now written_before written_now
    run.ends parts keeps source sink)
