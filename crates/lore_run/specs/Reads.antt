-- What a run reads: for each part of a script no more than the bounds of its statement, where it has any.
use Rattle.std.specs.Prelude.{◌≡◌, ℕ, ◌⊎◌, false, List, [], ◌∷◌, length, map}
use Rattle.lorel_trees.specs.Trees.{StatementTree}
use Rattle.statements.specs.Bounds.{ListsUnread}
use Rattle.lore_db.specs.States.{State, Kept, new_state, CountsNoStep, ReadsInState}
use Rattle.lore_run.specs.Types.{Unfinished, Reply, Refused}
use Rattle.lore_run.specs.Runs.{ScriptPart, chunk, rest, BeginsWith, HasParts, LacksTokens, LacksStatement, HasStatement}
use Rattle.lore_run.specs.declared.status.Status.{Status}
use Rattle.lore_run.specs.declared.status.Status.TheVariants.{NoMemory}

-- a state beside which no blocks are kept, and no view is fresh
abbrev pub bare : State → Kept
bare state = record { state = state; blocked = false; fresh = [] }

-- the bounds of a statement: nothing is read for one that counts no step, whatever is kept beside the state, and for one
-- that lists its changes unread no more than within four times their work
abbrev pub StatementReads : State → StatementTree → Reply → ℕ → ℕ → Type 0
StatementReads state statement reply old now =
    (CountsNoStep (bare state) statement → now ≡ old)
    × (ListsUnread statement → ReadsInState state statement reply old now)

-- what one part of a script answers and leaves, and the count of reads before and after it: nothing is read for text
-- that is no statement
abbrev pub PartReads : State → ScriptPart → Reply → State → ℕ → ℕ → Type 0
PartReads before (chunk text) reply after old now =
    ((LacksTokens before text reply after ⊎ LacksStatement before text reply after) × (now ≡ old))
    ⊎ ((is : HasStatement before text reply after) × StatementReads before is.statement reply old now)
PartReads before rest reply after old now = (reply ≡ Refused Unfinished) × (after ≡ before) × (now ≡ old)

-- parts one after another, each within its bounds from the state and the count that the one before it left
abbrev pub RunReads : State → List ScriptPart → State → ℕ → ℕ → Type 0
RunReads before [] after old now = (after ≡ before) × (now ≡ old)
RunReads before (part ∷ others) after old now =
    (reply : Reply) × (middle : State) × (count : ℕ)
    × PartReads before part reply middle old count × RunReads middle others after count now

-- the first parts of a script: its first chunks, or all its parts
abbrev pub AreFirst : List ℕ → List ScriptPart → Type 0
AreFirst script parts =
    ((chunks : List (List ℕ)) × (behind : List ℕ) × BeginsWith script chunks behind × (parts ≡ map chunk chunks))
    ⊎ HasParts script parts

-- from the new state on, so many of the first parts of a script led to this one, each within its bounds
pub record ReadsInBounds (script : List ℕ) (done : ℕ) (state : State) (old now : ℕ) : Type 0 where
  pub parts : List ScriptPart
  pub first : AreFirst script parts
  pub counted : done ≡ length parts
  pub read : RunReads new_state parts state old now

-- a run that ended so had the memory that it asked for
abbrev pub HadMemory : Status → Type 0
HadMemory NoMemory = ⊥
HadMemory status = Unit {0}
