-- How a run goes on, from one piece of the script to the next.
use Rattle.std.specs.Prelude.{◌≡◌, ℕ, ◌+◌, ◌≤◌, ◌<◌, ◌⊎◌, List, [], ◌∷◌, ◌++◌, length, map, Option, Some, All}
use Rattle.std.specs.Io.KnownBytes.{Appends, Consumes}
use Rattle.lore_base.specs.Chunks.{joined_chunks}
use Rattle.lore_run.specs.Types.{CHUNK_BYTES, SCRIPT_BYTES}
use Rattle.lore_db.specs.States.{State, new_state}
use Rattle.lorel_lex.specs.Scan.{IsChunk, IsOpen}
use Rattle.lorel_lex.specs.Chunks.{IsTooLong}
use Rattle.lorel_lex.specs.Gaps.{IsBlank}
use Rattle.lore_run.specs.Types.{Refusal, Reply, Refused}
use Rattle.lore_run.specs.Replies.{reply_text}
use Rattle.lore_run.specs.Runs.{ScriptPart, chunk, rest, Yields, Runs, refusals}
use Rattle.lore_run.specs.Reads.{PartReads, RunReads}
use Rattle.lore_run.specs.Endings.{Outside}
use Rattle.lore_run.specs.declared.status.Outcome.{Outcome}
use Rattle.lore_run.specs.declared.status.Status.{Status}
use Rattle.lore_run.specs.declared.status.Status.TheVariants.{Done, DoneRefused, WriteFault, StatementTooLong}
use Rattle.lore_run.specs.declared.status.Status.TheVariants.{NoMemory}
use Rattle.lore_run.specs.declared.tally.Tally.{Tally}
use Rattle.reply_texts.specs.Deliveries.{AppendsProperFront}

-- where a run stands: the bytes held of the chunk at hand, the counts, the bytes written, where the sink
-- tells them, the state, and the count of reads
pub record Standing : Type 0 where
  pub held : List ℕ
  pub tally : Tally
  pub written : Option (List ℕ)
  pub state : State
  pub reads : ℕ

abbrev pub standing : List ℕ → Tally → Option (List ℕ) → State → ℕ → Standing
standing held tally written state reads =
    record { held = held; tally = tally; written = written; state = state; reads = reads }

-- bytes that no `;` ends, within the limit of a chunk
pub record IsUnended (held : List ℕ) : Type 0 where
  pub unended : IsOpen held
  pub sized : length held ≤ CHUNK_BYTES

-- a part was executed and counted, and its reply written
pub record Replied (before : Standing) (part : ScriptPart) (after : Standing) : Type 0 where
  pub reply : Reply
  pub yielded : Yields before.state part reply after.state
  pub read : PartReads before.state part reply after.state before.reads after.reads
  pub done : after.tally.done ≡ before.tally.done + 1
  pub refused : after.tally.refused ≡ before.tally.refused + refusals reply
  pub printed : Appends before.written after.written (reply_text after.state reply)

-- a part was executed and counted, and the sink failed in its reply
pub record RepliedInPart (before : Standing) (part : ScriptPart) (after : Standing) : Type 0 where
  pub reply : Reply
  pub yielded : Yields before.state part reply after.state
  pub read : PartReads before.state part reply after.state before.reads after.reads
  pub done : after.tally.done ≡ before.tally.done + 1
  pub refused : after.tally.refused ≡ before.tally.refused + refusals reply
  pub printed : AppendsProperFront before.written after.written (reply_text after.state reply)

-- nothing was executed, replied to or written
pub record Unmoved (before after : Standing) : Type 0 where
  pub tally : after.tally ≡ before.tally
  pub written : after.written ≡ before.written
  pub state : after.state ≡ before.state

-- bytes were read behind those held: their chunks were replied to, each whole, and what stands behind them is
-- held
pub record Advances (before : Standing) (bytes : List ℕ) (after : Standing) : Type 0 where
  pub chunks : List (List ℕ)
  pub printed : List ℕ
  pub count : ℕ
  pub whole : before.held ++ bytes ≡ joined_chunks chunks ++ after.held
  pub each : All IsChunk chunks
  pub sized : All (λ text. length text ≤ CHUNK_BYTES) chunks
  pub ran : Runs before.state (map chunk chunks) printed count after.state
  pub read : RunReads before.state (map chunk chunks) after.state before.reads after.reads
  pub done : after.tally.done ≡ before.tally.done + length chunks
  pub refused : after.tally.refused ≡ before.tally.refused + count
  pub written : Appends before.written after.written printed

-- a chunk ends in these bytes, behind those held, and the sink failed in its reply
pub record FailsAtChunk (before : Standing) (bytes : List ℕ) (after : Standing) : Type 0 where
  pub text : List ℕ
  pub behind : List ℕ
  pub parts : before.held ++ bytes ≡ (text ++ 59 ∷ []) ++ behind
  pub ended : IsChunk text
  pub sized : length text ≤ CHUNK_BYTES
  pub fewer : length behind < length bytes
  pub replied : RepliedInPart before (chunk text) after

-- what stops a run at these bytes, behind those held
abbrev pub StopsAt : Status → Standing → List ℕ → Standing → Type 0
StopsAt WriteFault before bytes after = FailsAtChunk before bytes after
StopsAt StatementTooLong before bytes after =
    IsTooLong before.held bytes × Unmoved before after × (after.reads ≡ before.reads)
StopsAt NoMemory before bytes after = Unmoved before after
StopsAt _ before bytes after = ⊥

-- the run stopped in these bytes, behind a front of them
pub record StopsIn (status : Status) (before : Standing) (bytes : List ℕ) (after : Standing) : Type 0 where
  pub front : List ℕ
  pub back : List ℕ
  pub parts : bytes ≡ front ++ back
  pub middle : Standing
  pub held : IsUnended middle.held
  pub advanced : Advances before front middle
  pub stopped : StopsAt status middle back after

-- what stops a run at a part
abbrev pub StopsReplying : Status → Standing → ScriptPart → Standing → Type 0
StopsReplying WriteFault before part after = RepliedInPart before part after
StopsReplying NoMemory before part after = Unmoved before after
StopsReplying _ before part after = ⊥

-- behind the last chunk of a script stands what is held: nothing but blank bytes, or a part that was replied
-- to
abbrev pub FinishesWhole : Standing → Standing → Type 0
FinishesWhole before after =
    (IsBlank before.held × Unmoved before after × (after.reads ≡ before.reads))
    ⊎ ((IsBlank before.held → ⊥) × Replied before rest after)

-- how a run ends that took its whole script
abbrev pub Finishes : Status → Standing → Standing → Type 0
Finishes Done before after = FinishesWhole before after × (after.tally.refused ≡ 0)
Finishes DoneRefused before after = FinishesWhole before after × (0 < after.tally.refused)
Finishes WriteFault before after = (IsBlank before.held → ⊥) × RepliedInPart before rest after
Finishes _ before after = ⊥

-- where each run begins
abbrev pub beginning : Option (List ℕ) → ℕ → Standing
beginning written reads = standing [] (record { done = 0; refused = 0 }) written new_state reads

-- a run so far, from the new state and this count of reads on: it took so many bytes, within the limit of a script,
-- and holds a rest
pub record RunsSoFar (before : Outside) (began count : ℕ) (left : Option (List ℕ)) (now : Standing) : Type 0 where
  pub taken : List ℕ
  pub took : Consumes before.left left taken
  pub counted : count ≡ length taken
  pub within : count ≤ SCRIPT_BYTES
  pub held : IsUnended now.held
  pub advanced : Advances (beginning before.written began) taken now

-- the outcome of a run that ends here
abbrev pub outcome_at : Status → Standing → Outcome
outcome_at status now = record { status = status; done = now.tally.done; refused = now.tally.refused }

-- the reply to a fault with this refusal
abbrev pub IsRefusalOf : Option Refusal → Reply → Type 0
IsRefusalOf found reply = (refusal : Refusal) × (found ≡ Some refusal) × (reply ≡ Refused refusal)
