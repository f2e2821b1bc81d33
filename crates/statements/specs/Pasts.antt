-- A database with other names, objects and edges.
use Rattle.std.specs.Prelude.{ℕ, List}
use Rattle.lore_base.specs.Databases.{Database}
use Rattle.statements.specs.Types.{Oid, Edge, Value}

-- the database with these names, objects and edges
abbrev pub database_over : Database → List (List ℕ × Oid) → List (Oid × Value) → List Edge → Database
database_over db names objects edges =
    record db { graph = record db.graph { names = names; objects = objects; edges = edges } }
