-- Edges that leave some objects.
use Rattle.std.specs.Prelude.{◌↔◌, List, Contains}
use Rattle.slab.specs.Slab.{Slab}
use Rattle.lore_base.specs.Databases.{AreAscendingEdges}
use Rattle.edge_lists.specs.Records.{HasEdge}
use Rattle.graph_changes.specs.Types.{Oid, Edge, EdgeRecord}

-- the edges that leave these objects
pub record AreLeaving (records : Slab EdgeRecord) (oids : List Oid) (leaving : List Edge) : Type 0 where
  pub ascend : AreAscendingEdges leaving
  pub exact : (edge : Edge) → Contains leaving edge ↔ (HasEdge records edge × Contains oids edge.parent)
