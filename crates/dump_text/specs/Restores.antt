-- Reading a dump back: which databases a tree may stand for, when it stands for none, and what is restored from it.
use Rattle.std.specs.Prelude.{◌≡◌}
use Rattle.dump_text.specs.Types.{DumpTree, Restored}
use Rattle.lore_base.specs.Databases.{Database, IsRestorable}
use Rattle.lore_base.specs.Restores.{IsWhole, database_from}
use Rattle.dump_text.specs.Dumps.{dump_tree, IsVersion, in_version_two}

-- the tree is a dump of the database: in a version that is read it has all that the one has that is written
pub record IsDumpOf (tree : DumpTree) (db : Database) : Type 0 where
  pub version : IsVersion tree
  pub parts : dump_tree db ≡ in_version_two tree

-- the tree is bad: it is the dump of no such database
abbrev pub IsBad : DumpTree → Type 0
IsBad tree = (db : Database) → IsDumpOf tree db → ¬ IsRestorable db

-- what is restored is such a database, whole, and the tree is its dump
pub record IsRestored (tree : DumpTree) (restored : Restored) : Type 0 where
  pub dumped : IsDumpOf tree (database_from restored)
  pub whole : IsWhole restored
