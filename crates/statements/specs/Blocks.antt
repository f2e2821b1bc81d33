-- The blocks of a database, and what tells its paths.
use Rattle.std.specs.Prelude.{◌↔◌, ℕ, List, map, Contains}
use Rattle.lore_base.specs.Databases.{Database}
use Rattle.lore_base.specs.Paths.{PathTree, Reaches}
use Rattle.one_index.specs.Blocks.{NamedGraph, named_graph_of, AreBlocksOf}
use Rattle.statements.specs.Types.{Oid, Block}

-- the part of a database that decides its blocks
abbrev pub named_graph : Database → NamedGraph
named_graph db = named_graph_of db.graph.names (map (λ object. object.0) db.graph.objects) db.graph.edges

abbrev pub AreBlocksIn : Database → List Block → Type 0
AreBlocksIn db blocks = AreBlocksOf (named_graph db) blocks

-- of the database's names it is told what paths reach
abbrev pub TellsPaths : (PathTree → Oid → Oid → Type 0) → Database → Type 0
TellsPaths reaches db =
    (name : List ℕ) (named : Oid) → Contains db.graph.names (name, named) → (path : PathTree) (oid : Oid)
    → reaches path named oid ↔ Reaches db.labels db.graph.edges path named oid
