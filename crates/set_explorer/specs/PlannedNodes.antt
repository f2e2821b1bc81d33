-- Planned nodes: where their sets are from, and the nodes that they become.
use Rattle.std.specs.Prelude.{◌≡◌, ℕ, ◌<◌, List, [], length, map, Some, All, slice_get, slice_index_or}
use Rattle.set_explorer.specs.Types.{Oid, Node, GuideNode, Origin, Kept, Fresh, DeltaNode}
use Rattle.set_explorer.specs.Nodes.{sets_of}

-- the set of a planned node, where these are the nodes before
abbrev pub origin_set : List GuideNode → Origin → List Oid
origin_set kept (Kept node) = slice_index_or (sets_of kept) node.0 []
origin_set kept (Fresh set) = set

-- a node that is kept is there
abbrev pub IsOrigin : List GuideNode → Origin → Type 0
IsOrigin kept (Kept node) = node.0 < length kept
IsOrigin kept (Fresh set) = Unit {0}

abbrev pub node_then : List GuideNode → DeltaNode → GuideNode
node_then kept planned = record { set = origin_set kept planned.origin; edges = planned.edges }

-- the nodes that are planned, each with its set
abbrev pub nodes_then : List GuideNode → List DeltaNode → List GuideNode
nodes_then kept nodes = map (node_then kept) nodes

-- nodes that are kept are there, and each is kept once
pub record KeepsOnce (kept : List GuideNode) (nodes : List DeltaNode) : Type 0 where
  pub origins : All (λ planned. IsOrigin kept planned.origin) nodes
  pub once : (i j : ℕ) (a b : DeltaNode) (node : Node) → slice_get nodes i ≡ Some a
      → slice_get nodes j ≡ Some b → a.origin ≡ Kept node → b.origin ≡ Kept node → i ≡ j
