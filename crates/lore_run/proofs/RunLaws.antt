-- Runs of parts, one behind another, and how a run goes on from piece to piece.
use Rattle.std.proofs.Common.{◌≡◌, ℕ, ◌+◌, ◌≤◌, List, [], ◌∷◌, ◌++◌, length, map, Option, None, Some, refl, sym, ap, ◌∙◌, subst, append_assoc, append-nil, arith, lit≤, length-append}
use Rattle.std.specs.Prelude.{All}
use Rattle.std.specs.Io.KnownBytes.{Appends, Consumes, Keeps}
use Rattle.std.proofs.lemmas.Grind.{flat_map-append}
use Rattle.std.proofs.lemmas.List.{map-append}
use Rattle.std.proofs.lemmas.List.Elements.{All-append, All-cons, All-nil}
use Rattle.lore_base.specs.Chunks.{joined_chunks}
use Rattle.lore_run.specs.Types.{SCRIPT_BYTES}
use Rattle.lore_db.specs.States.{State}
use Rattle.lorel_lex.specs.Scan.{IsChunk}
use Rattle.lore_run.specs.Types.{Reply, Changed, Rows, Past, PlanShown, Lines, Dump, Refused}
use Rattle.lore_run.specs.Replies.{reply_text}
use Rattle.lore_run.specs.Runs.{ScriptPart, chunk, Runs, refusals}
use Rattle.lore_run.specs.Reads.{RunReads}
use Rattle.lore_run.specs.Endings.{Outside, outside}
use Rattle.lore_run.specs.inside.Turns.{Standing, beginning, IsUnended, Replied, RepliedInPart, Unmoved, Advances, RunsSoFar}
use Rattle.lore_base.proofs.PutLaws.{Appends-none, Appends-then}
use Rattle.lore_run.proofs.LimitLaws.{IsWithin}

-- some parts, and then others
pub runs_then : (before : State) (parts : List ScriptPart) (bytes : List ℕ) (count : ℕ) (middle : State) (others : List ScriptPart) (more : List ℕ) (others_count : ℕ) (after : State)
    → Runs before parts bytes count middle → Runs middle others more others_count after
    → Runs before (parts ++ others) (bytes ++ more) (count + others_count) after
runs_then before [] bytes count middle others more others_count after ran then =
    subst (λ (n : ℕ). Runs before others (bytes ++ more) n after) (let same : others_count ≡ count + others_count = omega (arith, ran.1) in same)
    (subst (λ (l : List ℕ). Runs before others l others_count after) (ap (λ l. l ++ more) (sym ran.0))
    (subst (λ (db : State). Runs db others more others_count after) ran.2 then))
runs_then before (first ∷ parts) bytes count middle others more others_count after ran then = (
  ran.0,
  ran.1,
  ran.2 ++ more,
  ran.3 + others_count,
  ran.4,
  runs_then ran.1 parts ran.2 ran.3 middle others more others_count after ran.5 then,
  ap (λ l. l ++ more) ran.6 ∙ append_assoc (reply_text ran.1 ran.0) ran.2 more,
  omega (arith, ran.7),
)

pub reads_then : (before : State) (parts : List ScriptPart) (middle : State) (others : List ScriptPart) (after : State) (old count now : ℕ)
    → RunReads before parts middle old count → RunReads middle others after count now → RunReads before (parts ++ others) after old now
reads_then before [] middle others after old count now read then =
    subst (λ (n : ℕ). RunReads before others after n now) read.1 (subst (λ (db : State). RunReads db others after count now) read.0 then)
reads_then before (part ∷ parts) middle others after old count now read then =
    (read.0, read.1, read.2, read.3, reads_then read.1 parts middle others after read.2 count now read.4 then)

pub joined-append : (chunks others : List (List ℕ)) → joined_chunks (chunks ++ others) ≡ joined_chunks chunks ++ joined_chunks others
joined-append chunks others = flat_map-append (λ l. l ++ 59 ∷ []) chunks others

pub joined-one : (text : List ℕ) → joined_chunks (text ∷ []) ≡ text ++ 59 ∷ []
joined-one text = append-nil (text ++ 59 ∷ [])

pub All-one : (P : List ℕ → Type 0) (text : List ℕ) → P text → All P (text ∷ [])
All-one P text holds = All-cons P text [] holds (All-nil P)

-- what a source has left, taken piece by piece
pub Consumes-none : (known : Option (List ℕ)) → Consumes known known []
Consumes-none None = tt
Consumes-none (Some xs) = refl

pub Consumes-then : (a b c : Option (List ℕ)) (xs ys : List ℕ) → Consumes a b xs → Consumes b c ys → Consumes a c (xs ++ ys)
Consumes-then None b c xs ys g h = tt
Consumes-then (Some p) None c xs ys g h = absurd g
Consumes-then (Some p) (Some q) None xs ys g h = absurd h
Consumes-then (Some p) (Some q) (Some r) xs ys g h = g ∙ ap (λ l. xs ++ l) h ∙ sym (append_assoc xs ys r)

pub Consumes-kept : (a b c : Option (List ℕ)) (xs : List ℕ) → Consumes a b xs → Keeps b c → Consumes a c xs
Consumes-kept None b c xs g h = tt
Consumes-kept (Some p) None c xs g h = absurd g
Consumes-kept (Some p) (Some q) None xs g h = absurd h
Consumes-kept (Some p) (Some q) (Some r) xs g h = g ∙ ap (λ l. xs ++ l) (sym h)

-- no byte
pub advances_none : (now : Standing) → Advances now [] now
advances_none now = record {
  chunks = [];
  printed = [];
  count = 0;
  whole = append-nil now.held;
  each = All-nil IsChunk;
  sized = All-nil IsWithin;
  ran = (refl, refl, refl);
  read = (refl, refl);
  done = omega arith;
  refused = omega arith;
  written = Appends-none now.written;
}

-- bytes that end no chunk
pub advances_held : (held bytes : List ℕ) (now : Standing) → now.held ≡ held ++ bytes → Advances (record now { held = held }) bytes now
advances_held held bytes now is = record {
  chunks = [];
  printed = [];
  count = 0;
  whole = sym is;
  each = All-nil IsChunk;
  sized = All-nil IsWithin;
  ran = (refl, refl, refl);
  read = (refl, refl);
  done = omega arith;
  refused = omega arith;
  written = Appends-none now.written;
}

-- bytes that end a chunk
pub advances_chunk : (held front : List ℕ) (before after : Standing) → after.held ≡ [] → IsChunk (held ++ front) → IsWithin (held ++ front) → Replied before (chunk (held ++ front)) after
    → Advances (record before { held = held }) (front ++ 59 ∷ []) after
advances_chunk held front before after empty is sized replied =
    let bytes = reply_text after.state replied.reply in
    record {
      chunks = (held ++ front) ∷ [];
      printed = bytes ++ [];
      count = refusals replied.reply + 0;
      whole = sym (append_assoc held front (59 ∷ [])) ∙ sym (joined-one (held ++ front)) ∙ sym (append-nil (joined_chunks ((held ++ front) ∷ [])))
          ∙ ap (λ l. joined_chunks ((held ++ front) ∷ []) ++ l) (sym empty);
      each = All-one IsChunk (held ++ front) is;
      sized = All-one IsWithin (held ++ front) sized;
      ran = (replied.reply, after.state, [], 0, replied.yielded, (refl, refl, refl), refl, refl);
      read = (replied.reply, after.state, after.reads, replied.read, (refl, refl));
      done = replied.done;
      refused = omega (arith, replied.refused);
      written = subst (λ (l : List ℕ). Appends before.written after.written l) (sym (append-nil bytes)) replied.printed;
    }

-- some bytes, and then others
pub advances_then : {a b c : Standing} {xs ys : List ℕ} → Advances a xs b → Advances b ys c → Advances a (xs ++ ys) c
advances_then {a} {b} {c} {xs} {ys} g h = record {
  chunks = g.chunks ++ h.chunks;
  printed = g.printed ++ h.printed;
  count = g.count + h.count;
  whole = sym (append_assoc a.held xs ys) ∙ ap (λ l. l ++ ys) g.whole ∙ append_assoc (joined_chunks g.chunks) b.held ys ∙ ap (λ l. joined_chunks g.chunks ++ l) h.whole
      ∙ sym (append_assoc (joined_chunks g.chunks) (joined_chunks h.chunks) c.held) ∙ ap (λ l. l ++ c.held) (sym (joined-append g.chunks h.chunks));
  each = All-append IsChunk g.chunks h.chunks g.each h.each;
  sized = All-append IsWithin g.chunks h.chunks g.sized h.sized;
  ran = subst (λ (parts : List ScriptPart). Runs a.state parts (g.printed ++ h.printed) (g.count + h.count) c.state) (sym (map-append chunk g.chunks h.chunks))
      (runs_then a.state (map chunk g.chunks) g.printed g.count b.state (map chunk h.chunks) h.printed h.count c.state g.ran h.ran);
  read = subst (λ (parts : List ScriptPart). RunReads a.state parts c.state a.reads c.reads) (sym (map-append chunk g.chunks h.chunks))
      (reads_then a.state (map chunk g.chunks) b.state (map chunk h.chunks) c.state a.reads b.reads c.reads g.read h.read);
  done = omega (arith, g.done, h.done, length-append g.chunks h.chunks);
  refused = omega (arith, g.refused, h.refused);
  written = Appends-then a.written b.written c.written g.printed h.printed g.written h.written;
}

-- each chunk has a byte at least, its `;`
few_ended : (chunks : List (List ℕ)) → length chunks ≤ length (joined_chunks chunks)
few_ended [] = omega arith
few_ended (text ∷ chunks) = omega (arith, few_ended chunks, length-append (text ++ 59 ∷ []) (joined_chunks chunks), length-append text (59 ∷ []))

pub few_done : {a b : Standing} {xs : List ℕ} → Advances a xs b → b.tally.done ≤ a.tally.done + (length a.held + length xs)
few_done {a} {b} {xs} g =
    omega (arith, g.done, few_ended g.chunks, ap length g.whole, length-append a.held xs, length-append (joined_chunks g.chunks) b.held)

-- a part is refused once at most
pub refusals_le : (reply : Reply) → refusals reply ≤ 1
refusals_le (Changed objects edges nodes) = omega arith
refusals_le (Rows oids) = omega arith
refusals_le (Past moment rows) = omega arith
refusals_le (PlanShown kind candidates found) = omega arith
refusals_le (Lines lines) = omega arith
refusals_le (Dump text) = omega arith
refusals_le (Refused refusal) = omega arith

-- a run at its beginning, and behind one more piece
pub so_far_start : (left written : Option (List ℕ)) (began : ℕ) → RunsSoFar (outside left written) began 0 left (beginning written began)
so_far_start left written began = record {
  taken = [];
  took = Consumes-none left;
  counted = refl;
  within = lit≤ tt;
  held = record { unended = tt; sized = lit≤ tt };
  advanced = advances_none (beginning written began);
}

pub so_far_more : (before : Outside) (began count : ℕ) (left new_left : Option (List ℕ)) (now next : Standing) (piece : List ℕ)
    → (so_far : RunsSoFar before began count left now) → Consumes left new_left piece → count + length piece ≤ SCRIPT_BYTES → IsUnended next.held → Advances now piece next
    → RunsSoFar before began (count + length piece) new_left next
so_far_more before began count left new_left now next piece so_far took few held advanced = record {
  taken = so_far.taken ++ piece;
  took = Consumes-then before.left left new_left so_far.taken piece so_far.took took;
  counted = omega (arith, so_far.counted, length-append so_far.taken piece);
  within = few;
  held = held;
  advanced = advances_then so_far.advanced advanced;
}

pub RepliedInPart-held : {before after : Standing} {part : ScriptPart} (held kept : List ℕ) → RepliedInPart before part after
    → RepliedInPart (record before { held = held }) part (record after { held = kept })
RepliedInPart-held {before} {after} {part} held kept g =
    record { reply = g.reply; yielded = g.yielded; read = g.read; done = g.done; refused = g.refused; printed = g.printed }

pub Unmoved-held : {before after : Standing} (held kept : List ℕ) → Unmoved before after → Unmoved (record before { held = held }) (record after { held = kept })
Unmoved-held {before} {after} held kept g = record { tally = g.tally; written = g.written; state = g.state }
