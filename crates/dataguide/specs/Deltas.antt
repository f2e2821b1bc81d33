-- A planned guide: its nodes, with where their sets are from, and what a guide becomes by it.
use Rattle.std.specs.Prelude.{◌≢◌, ℕ, ◌<◌, List, [], ◌∷◌, ◌++◌, All, AllPairs}
use Rattle.dataguide.specs.Types.{Oid, Label, Edge, Node, GuideNode, DeltaNode}
use Rattle.dataguide.specs.Guides.{GuideGraph, StandsFor}
use Rattle.set_explorer.specs.Nodes.{sets_of, node_number}
use Rattle.set_explorer.specs.Touched.{DifferBy}
pub use Rattle.set_explorer.specs.PlannedNodes.{origin_set, IsOrigin, node_then, nodes_then, KeepsOnce}

-- a planned guide: its nodes in the order of their numbers, and the nodes of the names
pub record PlannedGuide : Type 0 where
  pub nodes : List DeltaNode
  pub entries : List (List ℕ × Node)

-- the guide that is planned
abbrev pub guide_then : List GuideNode → PlannedGuide → GuideGraph
guide_then kept plan = record { nodes = nodes_then kept plan.nodes; entries = plan.entries }

-- the plan can be made: it keeps nodes that are there, each once, and no two of its nodes have one set
pub record IsReady (kept : List GuideNode) (plan : PlannedGuide) : Type 0 where
  pub keeps : KeepsOnce kept plan.nodes
  pub apart : AllPairs (λ a b. a ≢ b) (sets_of (nodes_then kept plan.nodes))

-- the guide stands for a database that had the lost edges and lacked the fresh ones
pub record StoodFor (guide : GuideGraph) (lost fresh after : List Edge) : Type 0 where
  pub names : List (List ℕ × Oid)
  pub before : List Edge
  pub stands : StandsFor guide names before
  pub differ : DifferBy before after lost fresh

-- How a plan is put together.

-- the label is above those of the node's edges
abbrev pub HasLabelsBelow : DeltaNode → Label → Type 0
HasLabelsBelow node label = All (λ edge. edge.0.0 < label.0) node.edges

abbrev pub with_edge : DeltaNode → Label → ℕ → DeltaNode
with_edge node label to = record node { edges = node.edges ++ (label, node_number to) ∷ [] }
