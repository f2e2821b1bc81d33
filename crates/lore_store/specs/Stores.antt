-- Stores, and what a prepared change leads to.
use Rattle.std.specs.Prelude.{ℕ, ◌≤◌, List, [], ◌∷◌, ◌++◌, Option, Some, None, IfSome}
use Rattle.lore_store.specs.Types.{Mode, NODES, Refusal}
use Rattle.lore_base.specs.GuideLimits.{FitsGuide}
use Rattle.lore_store.specs.Types.refusals
use Rattle.lore_store.specs.declared.indexes.Indexes.{Indexes}
use Rattle.lore_store.specs.declared.indexes.IndexPlan.{IndexPlan}
use Rattle.lore_store.specs.Indexes.{AreIndexes, AreIndexed, HasIndexRoom}
use Rattle.lore_base.specs.Databases.{OemGraph, Database, IsValid}
use Rattle.dataguide.specs.Guides.{GuideGraph, IsOrderedGuide}
use Rattle.dataguide.specs.Deltas.{PlannedGuide, IsReady}
use Rattle.dataguide.specs.Deltas as guides
use Rattle.oem_graph.specs.Graphs.{RoomyGraph}
use Rattle.oem_graph.specs.Plans.{PlannedGraph, graph_then, HasRoom}
use Rattle.oem_labels.specs.Labels.{PlannedLabels, LeadsFrom}

-- the database of these label texts, this graph, this limit on the guide's nodes and this plan mode
abbrev pub database_of : List (List ℕ) → OemGraph → ℕ → Mode → Database
database_of labels graph limit mode = record { labels = labels; graph = graph; nodes = limit; mode = mode }

-- a database; the graph with its room that it is kept in; its indexes; and its guide
pub record RoomyDatabase : Type 0 where
  pub db : Database
  pub kept : RoomyGraph
  pub indexes : Indexes
  pub guide : GuideGraph

-- the guide is that of the graph, its nodes in the order of their least label paths
abbrev pub IsGuided : OemGraph → GuideGraph → Type 0
IsGuided graph guide = IsOrderedGuide guide graph.names graph.edges

-- the database is valid, and the indexes and the guide are its own
pub record IsStored (db : Database) (kept : Indexes) (guide : GuideGraph) : Type 0 where
  pub valid : IsValid db
  pub indexes : AreIndexes db.graph kept
  pub guided : IsGuided db.graph guide

-- what becomes of the graph, which label texts come, which entries go and come, and what becomes of the guide, if it
-- doesn't stay
pub record PlannedDatabase : Type 0 where
  pub graph : PlannedGraph
  pub labels : PlannedLabels
  pub indexes : IndexPlan
  pub guide : Option PlannedGuide

-- the database that a prepared change leads to
abbrev pub database_then : Database → PlannedDatabase → Database
database_then before plan = record {
  labels = before.labels ++ plan.labels.come;
  graph = graph_then before.graph plan.graph;
  nodes = before.nodes;
  mode = before.mode;
}

-- the guide that there is then
abbrev pub guide_then : GuideGraph → Option PlannedGuide → GuideGraph
guide_then kept None = kept
guide_then kept (Some plan) = guides.guide_then kept.nodes plan

-- the plan is prepared for the database and its guide: it leads to a valid one and its guide, in all that is kept of it
pub record IsPreparedFor (before : Database) (guide : GuideGraph) (plan : PlannedDatabase) : Type 0 where
  pub valid : IsValid (database_then before plan)
  pub labels : LeadsFrom before.labels plan.labels
  pub indexes : AreIndexed before.graph (database_then before plan).graph plan.indexes
  pub guided : IsGuided (database_then before plan).graph (guide_then guide plan.guide)
  pub ready : IfSome plan.guide (IsReady guide.nodes)

-- the store keeps the room free that the prepared change needs
pub record HasRoomFor (store : RoomyDatabase) (plan : PlannedDatabase) : Type 0 where
  pub graph : HasRoom store.kept plan.graph
  pub indexes : HasIndexRoom store.indexes plan.indexes

-- the order in which causes of refusals are tried
abbrev pub store_order : List Refusal
store_order =
    refusals.TooManyNames ∷ refusals.TooManyObjects ∷ refusals.TooManyEdges
    ∷ refusals.GuideNodes ∷ refusals.GuideCells ∷ []

-- the number is a limit on the guide's nodes: it is in range, and the guide, which fits by it, has no more
pub record IsLimit (db : Database) (limit : ℕ) : Type 0 where
  pub low : 1 ≤ limit
  pub high : limit ≤ NODES
  pub fits : FitsGuide limit db.graph.names db.graph.edges
