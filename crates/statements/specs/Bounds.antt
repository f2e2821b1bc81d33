-- How much is read for a statement that lists its changes unread: no more than four times their work.
use Rattle.std.specs.Prelude.{◌≡◌, ◌⊎◌, ℕ, [], Contains}
use Rattle.statements.specs.Types.{Refusal, Reply, Refused}
use Rattle.lore_base.specs.Databases.{Database}
use Rattle.lorel_trees.specs.Trees.{StatementTree, load, unname, generate}
use Rattle.lore_store.specs.Stores.{store_order}
use Rattle.lore_store.specs.Reads.{ReadsWithinWork}
use Rattle.statements.specs.Effects.{effects}

-- the statement lists its changes and looks at no edge: a load, a name that is taken away, generated objects
abbrev pub ListsUnread : StatementTree → Type 0
ListsUnread (load name literal) = Unit {0}
ListsUnread (unname name) = Unit {0}
ListsUnread (generate seed count) = Unit {0}
ListsUnread statement = ⊥

-- the count of reads has risen by at most four times the work of what such a statement changes
abbrev pub ReadsWithinEffects : Database → StatementTree → ℕ → ℕ → Type 0
ReadsWithinEffects db statement old now = ReadsWithinWork db.graph (effects db statement []) old now

-- where it is refused nothing was read, unless it is for what the database would hold: then no more than that
abbrev pub ReadsToRefuse : Database → StatementTree → Refusal → ℕ → ℕ → Type 0
ReadsToRefuse db statement refusal old now =
    (now ≡ old) ⊎ (Contains store_order refusal × ReadsWithinEffects db statement old now)

-- what was read until it is replied to
abbrev pub ReadsToReply : Database → StatementTree → Reply → ℕ → ℕ → Type 0
ReadsToReply db statement (Refused refusal) old now = ReadsToRefuse db statement refusal old now
ReadsToReply db statement reply old now = ReadsWithinEffects db statement old now
