-- A graph with the room that it keeps, and the graph that changes of nothing make.
use Rattle.std.specs.Prelude.{ℕ, ◌<◌, ◌^◌, List, length, All}
use Rattle.oem_graph.specs.Types.{Oid, Value, Edge, Changes}
use Rattle.lore_base.specs.Databases.{OemGraph, IsOrdered, IsLive}

-- a graph, and how many more objects and edges it takes in without asking for memory
pub record RoomyGraph : Type 0 where
  pub graph : OemGraph
  pub object_room : ℕ
  pub edge_room : ℕ

-- both ends of the edge are live
pub record HasEnds (objects : List (Oid × Value)) (edge : Edge) : Type 0 where
  pub parent : IsLive objects edge.parent
  pub child : IsLive objects edge.child

-- the graph is in order, its edges lead from live objects to live ones, and numbers of 32 bits tell its objects and its
-- edges by their places
pub record IsIndexable (graph : OemGraph) : Type 0 where
  pub ordered : IsOrdered graph
  pub linked : All (HasEnds graph.objects) graph.edges
  pub few_edges : length graph.edges < 2 ^ 32

-- the graph whose names, objects and edges are those that the changes bring, with this next number
abbrev pub graph_from : Changes → ℕ → OemGraph
graph_from changes next = record {
  names = changes.named;
  objects = changes.made;
  edges = changes.added;
  next = next;
}
