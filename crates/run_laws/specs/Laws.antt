-- Laws that make the meaning of a script whole: its parts and their run are determined, and parts have a run.
use Rattle.std.specs.Prelude.{◌≡◌, ℕ, List}
use Rattle.lore_db.specs.States.{State}
use Rattle.reply_laws.specs.Laws.{CanStand}
use Rattle.lore_run.specs.Runs.{ScriptPart, HasParts, Runs}

-- no parts have two runs from one state: they print the same bytes, refuse as many and leave the same
-- state
abbrev pub HasOneRun : Type 0
HasOneRun =
    (before : State) (parts : List ScriptPart) (bytes other_bytes : List ℕ) (refused other_refused : ℕ)
    (after other : State)
    → Runs before parts bytes refused after → Runs before parts other_bytes other_refused other
    → (bytes ≡ other_bytes) × (refused ≡ other_refused) × (after ≡ other)

-- no script has two lists of parts
abbrev pub HasOneReading : Type 0
HasOneReading =
    (script : List ℕ) (parts others : List ScriptPart) → HasParts script parts → HasParts script others → parts ≡ others

-- each script has a list of parts: the rest behind its chunks is blank, or it isn't
abbrev pub HasSomeReading : Type 0
HasSomeReading = (script : List ℕ) → (parts : List ScriptPart) × HasParts script parts

-- from each state that can stand parts have a run, to such a state
abbrev pub HasSomeRun : Type 0
HasSomeRun =
    (before : State) (parts : List ScriptPart) → CanStand before
    → (bytes : List ℕ) × (refused : ℕ) × (after : State) × Runs before parts bytes refused after × CanStand after
