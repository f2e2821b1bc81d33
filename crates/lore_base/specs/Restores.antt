-- What a database is restored from.
use Rattle.std.specs.Prelude.{◌≡◌, []}
use Rattle.lore_base.specs.Types.{Restored}
use Rattle.lore_base.specs.Databases.{Database, IsRestorable}

-- the database whose labels, names, objects and edges come with the changes
abbrev pub database_from : Restored → Database
database_from restored = record {
  labels = restored.changes.labels;
  graph = record {
    names = restored.changes.named;
    objects = restored.changes.made;
    edges = restored.changes.added;
    next = restored.next;
  };
  nodes = restored.nodes;
  mode = restored.mode;
}

-- what is restored is a restorable database, and nothing is changed or taken away
pub record IsWhole (restored : Restored) : Type 0 where
  pub sound : IsRestorable (database_from restored)
  pub no_values : restored.changes.values ≡ []
  pub no_removed : restored.changes.removed ≡ []
  pub no_unnamed : restored.changes.unnamed ≡ []
