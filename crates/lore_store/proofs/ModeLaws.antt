-- A database stays valid in each plan mode, and a store of it whole.
use Rattle.std.proofs.Common.{ℕ, List}
use Rattle.lore_base.specs.Databases.{OemGraph, Database, IsValid}
use Rattle.dataguide.specs.Guides.{GuideGraph}
use Rattle.lore_store.specs.Types.{Mode}
use Rattle.lore_store.specs.declared.indexes.Indexes.{Indexes}
use Rattle.lore_store.specs.Stores.{IsStored, database_of}
use Rattle.lore_store.proofs.LimitLaws.{restorable_with}

-- the database in a mode
pub valid_in_mode : (db : Database) (mode : Mode) → IsValid db → IsValid (record db { mode = mode })
valid_in_mode db mode valid = record {
  restorable = restorable_with db db.nodes mode valid.restorable valid.restorable.nodes_limited;
  fits = valid.fits;
}

-- the store of it
pub stored_in_mode : (labels : List (List ℕ)) (graph : OemGraph) (limit : ℕ) (mode other : Mode) (kept : Indexes) (guide : GuideGraph)
    → IsStored (database_of labels graph limit mode) kept guide → IsStored (database_of labels graph limit other) kept guide
stored_in_mode labels graph limit mode other kept guide stored = record {
  valid = valid_in_mode (database_of labels graph limit mode) other stored.valid;
  indexes = stored.indexes;
  guided = stored.guided;
}
