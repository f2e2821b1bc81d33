-- How a run ends: what each status says of the bytes that were taken and written, of the counts and of the
-- state.
use Rattle.std.specs.Prelude.{◌≡◌, ℕ, ◌+◌, ◌≤◌, ◌<◌, ◌⊎◌, List, [], ◌∷◌, ◌++◌, length, map, take, Option}
use Rattle.std.specs.Io.KnownBytes.{Appends, Consumes, IsAtEnd}
use Rattle.lore_run.specs.Types.{CHUNK_BYTES, SCRIPT_BYTES}
use Rattle.lore_base.specs.Causes.{Rose}
use Rattle.lore_db.specs.States.{State, new_state}
use Rattle.lorel_lex.specs.Scan.{IsOpen, IsScript}
use Rattle.lore_run.specs.Types.{Reply}
use Rattle.lore_run.specs.Replies.{reply_text}
use Rattle.lore_run.specs.Runs.{BeginsWith, ScriptPart, chunk, EndsInRest, Yields, Runs, refusals, RunState}
use Rattle.lore_run.specs.Runs.{RepliesTo, RepliesToAll}
use Rattle.lore_run.specs.declared.status.Outcome.{Outcome}
use Rattle.lore_run.specs.declared.status.Status.{Status}
use Rattle.lore_run.specs.declared.status.Status.TheVariants.{Done, DoneRefused, Usage, ReadFault, WriteFault}
use Rattle.lore_run.specs.declared.status.Status.TheVariants.{StatementTooLong, NoMemory, ScriptTooLong}

-- the program's exit status
abbrev pub exit_status : Status → ℕ
exit_status Done = 0
exit_status DoneRefused = 1
exit_status Usage = 2
exit_status ReadFault = 3
exit_status WriteFault = 4
exit_status StatementTooLong = 5
exit_status NoMemory = 6
exit_status ScriptTooLong = 7

-- after these whole chunks, more bytes of one chunk or of the rest than the limit allows, and further bytes
pub record HasLongChunk (script : List ℕ) (chunks : List (List ℕ)) : Type 0 where
  pub front : List ℕ
  pub further : List ℕ
  pub begun : BeginsWith script chunks (front ++ further)
  pub unended : IsOpen front
  pub oversized : CHUNK_BYTES < length front

-- no chunk and no rest is too long, and neither is the script
pub record KeepsLimits (script : List ℕ) : Type 0 where
  pub chunks : (chunks : List (List ℕ)) → HasLongChunk script chunks → ⊥
  pub bytes : length script ≤ SCRIPT_BYTES

-- the script isn't too long, and neither are its first chunks, so many of them
pub record KeepsLimitsUpTo (script : List ℕ) (done : ℕ) : Type 0 where
  pub chunks : (chunks : List (List ℕ)) → length chunks < done → HasLongChunk script chunks → ⊥
  pub bytes : length script ≤ SCRIPT_BYTES

-- all whole chunks of these bytes were replied to, and nothing else
pub record RepliesToChunks (bytes : List ℕ) (run : RunState) : Type 0 where
  pub chunks : List (List ℕ)
  pub behind : List ℕ
  pub cut : IsScript bytes chunks behind
  pub replied : RepliesTo (map chunk chunks) run

-- the first chunks of what was taken were replied to, and nothing else
pub record RepliesToFirst (run : RunState) : Type 0 where
  pub chunks : List (List ℕ)
  pub behind : List ℕ
  pub begun : BeginsWith run.taken chunks behind
  pub replied : RepliesTo (map chunk chunks) run

-- these are the first parts of what was taken, and so many bytes were taken behind them. The rest is a part
-- only where the source is at its end
abbrev pub AreFirstParts : RunState → Option (List ℕ) → List ScriptPart → List ℕ → Type 0
AreFirstParts run left parts behind =
    ((chunks : List (List ℕ)) × BeginsWith run.taken chunks behind × (parts ≡ map chunk chunks))
    ⊎ (EndsInRest run.taken parts × IsAtEnd left × (behind ≡ []))

-- the sink failed in a reply: the replies before it stand whole, and then a front of this one, not all of it.
-- Behind the part that it replies to fewer than 65,536 bytes were taken
pub record FailsInReply (run : RunState) (left : Option (List ℕ)) : Type 0 where
  pub earlier : List ScriptPart
  pub last : ScriptPart
  pub behind : List ℕ
  pub first : AreFirstParts run left (earlier ++ last ∷ []) behind
  pub at_hand : length behind < 65_536
  pub bytes : List ℕ
  pub count : ℕ
  pub before : State
  pub ran : Runs new_state earlier bytes count before
  pub reply : Reply
  pub yielded : Yields before last reply run.state
  pub done : run.done ≡ length earlier + 1
  pub refused : run.refused ≡ count + refusals reply
  pub kept : ℕ
  pub part : kept < length (reply_text run.state reply)
  pub written : run.written ≡ bytes ++ take kept (reply_text run.state reply)

-- all chunks before one that is too long were replied to, and none of them is too long
pub record StopsAtLongChunk (run : RunState) : Type 0 where
  pub chunks : List (List ℕ)
  pub replied : RepliesTo (map chunk chunks) run
  pub long : HasLongChunk run.taken chunks
  pub within : KeepsLimitsUpTo run.taken run.done

-- one byte more was taken than a script may have, and all whole chunks before it were replied to
pub record StopsAtLongScript (run : RunState) : Type 0 where
  pub before : List ℕ
  pub byte : ℕ
  pub taken : run.taken ≡ before ++ byte ∷ []
  pub full : length before ≡ SCRIPT_BYTES
  pub within : KeepsLimits before
  pub replied : RepliesToChunks before run

-- how a run ends, by its status. No run over a script ends with Usage
abbrev pub Ends : Status → RunState → Option (List ℕ) → Type 0
Ends Done run left = RepliesToAll run × KeepsLimits run.taken × IsAtEnd left × (run.refused ≡ 0)
Ends DoneRefused run left = RepliesToAll run × KeepsLimits run.taken × IsAtEnd left × (0 < run.refused)
Ends ReadFault run left = RepliesToChunks run.taken run × KeepsLimits run.taken
Ends WriteFault run left = FailsInReply run left × KeepsLimits run.taken
Ends StatementTooLong run left = StopsAtLongChunk run
Ends NoMemory run left = RepliesToFirst run × KeepsLimitsUpTo run.taken run.done
Ends ScriptTooLong run left = StopsAtLongScript run
Ends Usage run left = ⊥

-- what a source and a sink tell: the bytes left and the bytes written
pub record Outside : Type 0 where
  pub left : Option (List ℕ)
  pub written : Option (List ℕ)

abbrev pub outside : Option (List ℕ) → Option (List ℕ) → Outside
outside left written = record { left = left; written = written }

-- the state of a run with this outcome
abbrev pub state_of : Outcome → List ℕ → List ℕ → State → RunState
state_of outcome taken written state = record {
  taken = taken;
  done = outcome.done;
  refused = outcome.refused;
  written = written;
  state = state;
}

-- a run with this outcome and this state: what it took from the source, what it wrote to the sink, and how
-- it ended
pub record RunEnds (outcome : Outcome) (state : State) (before after : Outside) : Type 0 where
  pub taken : List ℕ
  pub written : List ℕ
  pub took : Consumes before.left after.left taken
  pub wrote : Appends before.written after.written written
  pub ends : Ends outcome.status (state_of outcome taken written state) after.left

-- a run with this outcome and this state replied to all parts of the script
pub record PrintsAll (script : List ℕ) (outcome : Outcome) (state : State) (before after : Option (List ℕ))
    : Type 0 where
  pub written : List ℕ
  pub wrote : Appends before after written
  pub replied : RepliesToAll (state_of outcome script written state)

-- the script was read to its end
abbrev pub IsDone : Status → Type 0
IsDone Done = Unit {0}
IsDone DoneRefused = Unit {0}
IsDone _ = ⊥

-- a read fault comes only where the source's count rose, and any other end leaves the count
abbrev pub IsCausedBySource : Status → ℕ → ℕ → Type 0
IsCausedBySource ReadFault before now = Rose before now
IsCausedBySource _ before now = now ≡ before

-- a write fault comes only where the sink's count rose, and any other end leaves the count
abbrev pub IsCausedBySink : Status → ℕ → ℕ → Type 0
IsCausedBySink WriteFault before now = Rose before now
IsCausedBySink _ before now = now ≡ before

-- a run ends well where it is done, where memory was refused, and where a fault ended it that the source, or
-- the sink, counted
abbrev pub EndsWell : Status → Type 0 → Type 0 → Type 0
EndsWell Done read_fault write_fault = Unit {0}
EndsWell DoneRefused read_fault write_fault = Unit {0}
EndsWell NoMemory read_fault write_fault = Unit {0}
EndsWell ReadFault read_fault write_fault = read_fault
EndsWell WriteFault read_fault write_fault = write_fault
EndsWell _ read_fault write_fault = ⊥

-- nothing was read, written, executed or counted
pub record IsUntouched (outcome : Outcome) (state : State) (before after : Outside) : Type 0 where
  pub no_statement : outcome.done ≡ 0
  pub no_refusal : outcome.refused ≡ 0
  pub unmoved : after ≡ before
  pub same : state ≡ new_state
