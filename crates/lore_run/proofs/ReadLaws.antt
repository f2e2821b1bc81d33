-- What parts read, one behind another, and what a run has read at each of its ends.
use Rattle.std.proofs.Common.{◌≡◌, ℕ, ◌+◌, inl, inr, List, [], ◌∷◌, ◌++◌, map, Option, Some, None, Result, Ok, Err, IfOk, OnOk, refl, sym, ap, ◌∙◌, subst, append_assoc, append-nil, arith, length-append}
use Rattle.std.specs.Prelude.{IfSome}
use Rattle.std.specs.Io.KnownBytes.{Consumes, Keeps, IsAtEnd}
use Rattle.std.proofs.lemmas.List.{map-append, length-map}
use Rattle.std.proofs.lemmas.List.Elements.{All-append, All-nil}
use Rattle.lore_base.specs.Chunks.{joined_chunks}
use Rattle.lore_base.proofs.MemberLaws.{Contains-none}
use Rattle.lorel_lex.specs.Scan.{IsChunk}
use Rattle.lorel_lex.specs.Gaps.{IsBlank}
use Rattle.lorel_lex.specs.Tokens.{AreTokens}
use Rattle.lorel_tokens.specs.declared.token_types.Token.{Token}
use Rattle.lorel_trees.specs.Tokens.{HasTokens}
use Rattle.lorel_trees.specs.Trees.{StatementTree, show}
use Rattle.statements.specs.Bounds.{ListsUnread}
use Rattle.lore_db.specs.States.{State, Kept, new_state, Performs, CountsNoStep, ReadsInState}
use Rattle.lore_run.specs.Types.{Reply}
use Rattle.lore_run.specs.Runs.{ScriptPart, chunk, rest}
use Rattle.lore_run.specs.Reads.{bare, StatementReads, PartReads, RunReads, ReadsInBounds, HadMemory}
use Rattle.lore_run.specs.Endings.{Outside}
use Rattle.lore_run.specs.declared.status.Status.{Status}
use Rattle.lore_run.specs.declared.status.Status.TheVariants.{Done, DoneRefused, Usage, ReadFault, WriteFault, StatementTooLong, NoMemory, ScriptTooLong}
use Rattle.lore_run.specs.declared.tally.Tally.{Tally}
use Rattle.lore_run.specs.inside.Turns.{Standing, beginning, IsUnended, RepliedInPart, Advances, StopsIn, FinishesWhole, Finishes, RunsSoFar}
use Rattle.lore_run.proofs.EndLaws.{told_front}
use Rattle.lore_run.proofs.RunLaws.{reads_then, joined-append, joined-one, All-one, Consumes-then, Consumes-kept, advances_then}

-- ---- statements
-- what counts no step where no blocks are kept, and no view is fresh, counts none in any case
bare_counts : (kept : Kept) (statement : StatementTree) → CountsNoStep (bare kept.state) statement → CountsNoStep kept statement
bare_counts kept (show name) (inl fresh) = absurd (Contains-none name fresh)
bare_counts kept (show name) (inr quiet) = inr quiet
bare_counts kept statement quiet = quiet

pub statement_reads : {E : Type 0} (kept : Kept) (statement : StatementTree) (old now : ℕ) (result : Result Reply E)
    → OnOk result (CountsNoStep kept statement → now ≡ old)
    → IfOk result (λ reply. ListsUnread statement → ReadsInState kept.state statement reply old now)
    → IfOk result (λ reply. StatementReads kept.state statement reply old now)
statement_reads kept statement old now (Ok reply) quiet bounded = (λ none. quiet (bare_counts kept statement none), bounded)
statement_reads kept statement old now (Err error) quiet bounded = tt

-- a chunk that was executed
pub executed_reads : {E : Type 0} (result : Result Reply E) (before after : State) (text : List ℕ) (tokens : List Token) → AreTokens text tokens
    → (statement : StatementTree) → HasTokens statement (map (λ token. token.kind) tokens) → (old now : ℕ) → IfOk result (λ reply. Performs before statement reply after)
    → IfOk result (λ reply. StatementReads before statement reply old now) → IfOk result (λ reply. PartReads before (chunk text) reply after old now)
executed_reads (Ok reply) before after text tokens lexed statement parsed old now executed read =
    inr (record { tokens = tokens; lexed = lexed; statement = statement; parsed = parsed; executed = executed }, read)
executed_reads (Err error) before after text tokens lexed statement parsed old now executed read = tt

-- ---- the ends of a run, over the bytes of the script
-- a run that reached this far, and executed no part since
at_chunks : (written : Option (List ℕ)) (began : ℕ) (script taken back : List ℕ) (now : Standing) → script ≡ taken ++ back
    → Advances (beginning written began) taken now → ReadsInBounds script now.tally.done now.state began now.reads
at_chunks written began script taken back now parts reached = record {
  parts = map chunk reached.chunks;
  first = inl (
    reached.chunks,
    now.held ++ back,
    record { whole = parts ∙ ap (λ l. l ++ back) reached.whole ∙ append_assoc (joined_chunks reached.chunks) now.held back; each = reached.each },
    refl,
  );
  counted = omega (arith, reached.done, length-map reached.chunks chunk);
  read = reached.read;
}

-- one that ended in the reply to a part behind its chunks
last_part : (written : Option (List ℕ)) (began : ℕ) (taken : List ℕ) (now after : Standing) (last : ScriptPart) (reply : Reply) → (reached : Advances (beginning written began) taken now)
    → PartReads now.state last reply after.state now.reads after.reads
    → RunReads new_state (map chunk reached.chunks ++ last ∷ []) after.state began after.reads
last_part written began taken now after last reply reached read =
    reads_then new_state (map chunk reached.chunks) now.state (last ∷ []) after.state began now.reads after.reads reached.read
    (reply, after.state, after.reads, read, (refl, refl))

-- no part was executed
pub reads_nothing : (left : Option (List ℕ)) (done : ℕ) (db : State) (old now : ℕ) → done ≡ 0 → db ≡ new_state → now ≡ old
    → IfSome left (λ script. ReadsInBounds script done db old now)
reads_nothing None done db old now none new same = tt
reads_nothing (Some script) done db old now none new same = record {
  parts = [];
  first = inl ([], script, record { whole = refl; each = All-nil IsChunk }, refl);
  counted = none;
  read = (new, same);
}

-- what is said of one state is said of one that differs in nothing that it names
moved : (script : List ℕ) (began : ℕ) (now after : Standing) → after.tally.done ≡ now.tally.done → after.state ≡ now.state → after.reads ≡ now.reads
    → ReadsInBounds script now.tally.done now.state began now.reads → ReadsInBounds script after.tally.done after.state began after.reads
moved script began now after done database reads h = record {
  parts = h.parts;
  first = h.first;
  counted = done ∙ h.counted;
  read = subst (λ (n : ℕ). RunReads new_state h.parts after.state began n) (sym reads)
      (subst (λ (db : State). RunReads new_state h.parts db began now.reads) (sym database) h.read);
}

-- one that ended in the reply to one more chunk
at_reply : (written : Option (List ℕ)) (began : ℕ) (script taken back : List ℕ) (now after : Standing) → script ≡ taken ++ back
    → Advances (beginning written began) taken now → (text behind : List ℕ) → now.held ++ back ≡ (text ++ 59 ∷ []) ++ behind → IsChunk text
    → RepliedInPart now (chunk text) after → ReadsInBounds script after.tally.done after.state began after.reads
at_reply written began script taken back now after parts reached text behind ends is replied =
    let chunks = reached.chunks ++ text ∷ [] in
    let joined : joined_chunks chunks ≡ joined_chunks reached.chunks ++ (text ++ 59 ∷ []) =
    joined-append reached.chunks (text ∷ []) ∙ ap (λ l. joined_chunks reached.chunks ++ l) (joined-one text) in
    record {
      parts = map chunk chunks;
      first = inl (
        chunks,
        behind,
        record {
          whole = parts ∙ ap (λ l. l ++ back) reached.whole ∙ append_assoc (joined_chunks reached.chunks) now.held back ∙ ap (λ l. joined_chunks reached.chunks ++ l) ends
              ∙ sym (append_assoc (joined_chunks reached.chunks) (text ++ 59 ∷ []) behind) ∙ ap (λ l. l ++ behind) (sym joined);
          each = All-append IsChunk reached.chunks (text ∷ []) reached.each (All-one IsChunk text is);
        },
        refl,
      );
      counted = omega (arith, replied.done, reached.done, length-map chunks chunk, length-append reached.chunks (text ∷ []));
      read = subst (λ (ps : List ScriptPart). RunReads new_state ps after.state began after.reads) (sym (map-append chunk reached.chunks (text ∷ [])))
          (last_part written began taken now after (chunk text) replied.reply reached replied.read);
    }

-- and one that ended in the reply to what stands behind the last chunk
at_rest : (written : Option (List ℕ)) (began : ℕ) (taken : List ℕ) (now after : Standing) → Advances (beginning written began) taken now → IsUnended now.held
    → (IsBlank now.held → ⊥) → (reply : Reply) → after.tally.done ≡ now.tally.done + 1 → PartReads now.state rest reply after.state now.reads after.reads
    → ReadsInBounds taken after.tally.done after.state began after.reads
at_rest written began taken now after reached kept filled reply done read = record {
  parts = map chunk reached.chunks ++ rest ∷ [];
  first = inr (record {
    chunks = reached.chunks;
    behind = now.held;
    cut = record { whole = reached.whole; each = reached.each; unended = kept.unended };
    listed = inr (filled, refl);
  });
  counted = omega (arith, done, reached.done, length-map reached.chunks chunk, length-append (map chunk reached.chunks) (rest ∷ []));
  read = last_part written began taken now after rest reply reached read;
}

told_whole : (left new_left : Option (List ℕ)) (taken : List ℕ) (P : List ℕ → Type 0) → Consumes left new_left taken → IsAtEnd new_left → P taken → IfSome left P
told_whole None new_left taken P took at_end holds = tt
told_whole (Some script) None taken P took at_end holds = absurd took
told_whole (Some script) (Some back) taken P took at_end holds =
    subst P (sym (took ∙ ap (λ l. taken ++ l) at_end ∙ append-nil taken)) holds

module _ (before : Outside) (began count : ℕ) (left new_left : Option (List ℕ)) (now : Standing) (so_far : RunsSoFar before began count left now) where
  abbrev Told : Standing → List ℕ → Type 0
  Told after script = ReadsInBounds script after.tally.done after.state began after.reads

  -- a source that fails, and a script that is too long
  pub reads_fault : Keeps left new_left → IfSome before.left (λ script. ReadsInBounds script now.tally.done now.state began now.reads)
  reads_fault keeps =
      told_front before.left new_left so_far.taken (λ script. Told now script) (Consumes-kept before.left left new_left so_far.taken so_far.took keeps)
      (λ script back parts. at_chunks before.written began script so_far.taken back now parts so_far.advanced)

  pub reads_too_long : (piece : List ℕ) → Consumes left new_left piece
      → IfSome before.left (λ script. ReadsInBounds script now.tally.done now.state began now.reads)
  reads_too_long piece took =
      told_front before.left new_left (so_far.taken ++ piece) (λ script. Told now script) (Consumes-then before.left left new_left so_far.taken piece so_far.took took)
      (λ script back parts. at_chunks before.written began script so_far.taken (piece ++ back) now (parts ∙ append_assoc so_far.taken piece back) so_far.advanced)

  -- what a piece stops
  stopped_in : (status : Status) (piece : List ℕ) (after : Standing) → StopsIn status now piece after → HadMemory status → (script back : List ℕ)
      → script ≡ (so_far.taken ++ piece) ++ back → Told after script
  stopped_in WriteFault piece after stops had script back parts =
      let reached = advances_then so_far.advanced stops.advanced in
      let fails = stops.stopped in
      let split : script ≡ (so_far.taken ++ stops.front) ++ (stops.back ++ back) =
      parts ∙ ap (λ l. (so_far.taken ++ l) ++ back) stops.parts ∙ ap (λ l. l ++ back) (sym (append_assoc so_far.taken stops.front stops.back))
      ∙ append_assoc (so_far.taken ++ stops.front) stops.back back in
      let ends : stops.middle.held ++ (stops.back ++ back) ≡ (fails.text ++ 59 ∷ []) ++ (fails.behind ++ back) =
      sym (append_assoc stops.middle.held stops.back back) ∙ ap (λ l. l ++ back) fails.parts ∙ append_assoc (fails.text ++ 59 ∷ []) fails.behind back in
      at_reply before.written began script (so_far.taken ++ stops.front) (stops.back ++ back) stops.middle after split reached fails.text (fails.behind ++ back)
      ends fails.ended fails.replied
  stopped_in StatementTooLong piece after stops had script back parts =
      let reached = advances_then so_far.advanced stops.advanced in
      let (long, unmoved, reads) = stops.stopped in
      let split : script ≡ (so_far.taken ++ stops.front) ++ (stops.back ++ back) =
      parts ∙ ap (λ l. (so_far.taken ++ l) ++ back) stops.parts ∙ ap (λ l. l ++ back) (sym (append_assoc so_far.taken stops.front stops.back))
      ∙ append_assoc (so_far.taken ++ stops.front) stops.back back in
      moved script began stops.middle after (ap (λ (t : Tally). t.done) unmoved.tally) unmoved.state reads
      (at_chunks before.written began script (so_far.taken ++ stops.front) (stops.back ++ back) stops.middle split reached)
  stopped_in NoMemory piece after stops had script back parts = absurd had
  stopped_in Done piece after stops had script back parts = absurd stops.stopped
  stopped_in DoneRefused piece after stops had script back parts = absurd stops.stopped
  stopped_in Usage piece after stops had script back parts = absurd stops.stopped
  stopped_in ReadFault piece after stops had script back parts = absurd stops.stopped
  stopped_in ScriptTooLong piece after stops had script back parts = absurd stops.stopped

  pub reads_stopped : (status : Status) (piece : List ℕ) (after : Standing) → Consumes left new_left piece → StopsIn status now piece after → HadMemory status
      → IfSome before.left (λ script. ReadsInBounds script after.tally.done after.state began after.reads)
  reads_stopped status piece after took stops had =
      told_front before.left new_left (so_far.taken ++ piece) (λ script. Told after script) (Consumes-then before.left left new_left so_far.taken piece so_far.took took)
      (λ script back parts. stopped_in status piece after stops had script back parts)

  -- a script that was read to its end
  finished_whole : (after : Standing) → FinishesWhole now after → Told after so_far.taken
  finished_whole after (inl (blank, unmoved, reads)) =
      moved so_far.taken began now after (ap (λ (t : Tally). t.done) unmoved.tally) unmoved.state reads
      (at_chunks before.written began so_far.taken so_far.taken [] now (sym (append-nil so_far.taken)) so_far.advanced)
  finished_whole after (inr (filled, replied)) =
      at_rest before.written began so_far.taken now after so_far.advanced so_far.held filled replied.reply replied.done replied.read

  finished : (status : Status) (after : Standing) → Finishes status now after → Told after so_far.taken
  finished Done after finishes = finished_whole after finishes.0
  finished DoneRefused after finishes = finished_whole after finishes.0
  finished WriteFault after finishes =
      at_rest before.written began so_far.taken now after so_far.advanced so_far.held finishes.0 finishes.1.reply finishes.1.done finishes.1.read
  finished Usage after finishes = absurd finishes
  finished ReadFault after finishes = absurd finishes
  finished StatementTooLong after finishes = absurd finishes
  finished NoMemory after finishes = absurd finishes
  finished ScriptTooLong after finishes = absurd finishes

  pub reads_finished : (status : Status) (after : Standing) → Consumes left new_left [] → IsAtEnd new_left → Finishes status now after
      → IfSome before.left (λ script. ReadsInBounds script after.tally.done after.state began after.reads)
  reads_finished status after none at_end finishes =
      told_whole before.left new_left so_far.taken (λ script. Told after script)
      (subst (λ (l : List ℕ). Consumes before.left new_left l) (append-nil so_far.taken) (Consumes-then before.left left new_left so_far.taken [] so_far.took none))
      at_end (finished status after finishes)
