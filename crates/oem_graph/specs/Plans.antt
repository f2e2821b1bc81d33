-- Plans of changes: what becomes of a graph, and which graph a plan leads to.
use Rattle.std.specs.Prelude.{ℕ, ◌≤◌, List, length}
use Rattle.oem_graph.specs.Types.{Oid, Edge, Value, Delta}
use Rattle.lore_base.specs.Databases.{OemGraph}
use Rattle.oem_graph.specs.Graphs.{RoomyGraph}
use Rattle.graph_changes.specs.Left.{not_dead}
use Rattle.graph_changes.specs.Puts.{with_objects, put_edges}
use Rattle.edge_layers.specs.Layers.{staying}

-- the names then; the objects that vanish; what goes and what comes; and the next number
pub record PlannedGraph : Type 0 where
  pub names : List (List ℕ × Oid)
  pub dead : List Oid
  pub delta : Delta
  pub next : ℕ

-- the objects and the edges of a graph
pub record GraphLists : Type 0 where
  pub objects : List (Oid × Value)
  pub edges : List Edge

-- the graph that the plan leads to
abbrev pub graph_then : OemGraph → PlannedGraph → OemGraph
graph_then before plan = record {
  names = plan.names;
  objects = with_objects (not_dead plan.dead before.objects) plan.delta.objects_come;
  edges = put_edges (staying plan.delta.edges_gone before.edges) plan.delta.edges_come;
  next = plan.next;
}

-- the graph keeps the room free that the plan needs
pub record HasRoom (kept : RoomyGraph) (plan : PlannedGraph) : Type 0 where
  pub objects : length plan.delta.objects_come ≤ kept.object_room
  pub edges : length plan.delta.edges_come ≤ kept.edge_room
