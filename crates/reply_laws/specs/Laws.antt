-- Laws that make the meaning of one statement whole: its reply and what it leaves are determined, and they exist from each
-- valid database, and from each state that can stand.
use Rattle.std.specs.Prelude.{◌≡◌, List, [], ◌∷◌, ◌++◌, All, IfSome}
use Rattle.lore_base.specs.Databases.{Database, IsRestorable, IsValid, new_database}
use Rattle.lore_base.specs.ChangeSets.{IsAfter}
use Rattle.lorel_trees.specs.Trees.{StatementTree}
use Rattle.lorel_trees.specs.Sound.{IsSound}
use Rattle.updates.specs.Effects.{changes_by}
use Rattle.doem_history.specs.Moments.{Moment}
use Rattle.lore_db.specs.Types.{Reply}
use Rattle.statements.specs.Forms.{IsOfSession}
use Rattle.statements.specs.Statements.{Executes}
use Rattle.lore_db.specs.States.{State, new_state, present, database_at, Performs}

-- a statement has one reply, and leaves one database
abbrev pub ExecutesOnce : Type 0
ExecutesOnce = (before : Database) (statement : StatementTree) (reply other : Reply) (after later : Database)
    → Executes before statement reply after → Executes before statement other later
    → (reply ≡ other) × (after ≡ later)

-- the same of a state: a statement has one reply, and leaves one state
abbrev pub PerformsOnce : Type 0
PerformsOnce = (before : State) (statement : StatementTree) (reply other : Reply) (after later : State)
    → Performs before statement reply after → Performs before statement other later
    → (reply ≡ other) × (after ≡ later)

-- what a statement answers and leaves, where the database stays valid
pub record SomeReply (before : Database) (statement : StatementTree) : Type 0 where
  pub reply : Reply
  pub after : Database
  pub executed : Executes before statement reply after
  pub valid : IsValid after

-- from a valid database each sound statement has a reply, but those that keep or ask a history or views
abbrev pub ExecutesAlways : Type 0
ExecutesAlways = (before : Database) (statement : StatementTree) → IsValid before → IsSound statement
    → ¬ IsOfSession statement → SomeReply before statement

-- the new database is valid
abbrev pub BeginsValid : Type 0
BeginsValid = IsValid new_database

-- moments that are kept of a database: with its labels each of them is a database as well, what its guide would be left aside,
-- and the last of them is the present one
pub record AreKeptOf (db : Database) (moments : List Moment) : Type 0 where
  pub each : All (λ moment. IsRestorable (database_at db moment)) moments
  pub earlier : List Moment
  pub last : moments ≡ earlier ++ present db ∷ []

-- a state that can stand: its database is valid, and the moments of its history are kept of it
pub record CanStand (state : State) : Type 0 where
  pub valid : IsValid state.db
  pub moments : IfSome state.history (AreKeptOf state.db)

-- what a statement answers and leaves, where the state after it can stand too
pub record SomePerformance (before : State) (statement : StatementTree) : Type 0 where
  pub reply : Reply
  pub after : State
  pub performed : Performs before statement reply after
  pub stands : CanStand after

-- from a state that can stand each sound statement has a reply
abbrev pub PerformsAlways : Type 0
PerformsAlways =
    (before : State) (statement : StatementTree) → CanStand before → IsSound statement → SomePerformance before statement

-- the new state can stand
abbrev pub BeginsStanding : Type 0
BeginsStanding = CanStand new_state

-- an update that has no row changes nothing
abbrev pub ChangesNothing : Type 0
ChangesNothing = (before after : Database) (statement : StatementTree)
    → IsValid before → IsAfter before (changes_by before.labels before.graph statement []) after → after ≡ before
