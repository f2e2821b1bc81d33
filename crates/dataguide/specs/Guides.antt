-- Strong DataGuides (Goldman and Widom 1997): a node for each set that a label path leads to, and an edge
-- for each step.
use Rattle.std.specs.Prelude.{◌≡◌, ℕ, List, Option, Some, All, Contains, slice_get, option_and_then}
use Rattle.std.specs.List.{AllZip}
use Rattle.std.specs.Map.{lookup}
use Rattle.std.specs.BTreeMap.{is_at}
use Rattle.lore_base.specs.Bytes.{bytes_cmp}
use Rattle.lore_base.specs.TargetSets.{AreTargetSets}
use Rattle.dataguide.specs.Types.{Oid, Label, Edge, Node, GuideNode}
use Rattle.lore_base.specs.PathOrder.{AreInPathOrder}
pub use Rattle.set_explorer.specs.Nodes.{node_number, sets_of, HasSet, AscendByLabel, HasItsSteps, IsEntry}

-- a guide: its nodes in the order of their numbers, and the nodes of the names
pub record GuideGraph : Type 0 where
  pub nodes : List GuideNode
  pub entries : List (List ℕ × Node)

-- the guide stands for the database with these names and edges
pub record StandsFor (guide : GuideGraph) (names : List (List ℕ × Oid)) (edges : List Edge) : Type 0 where
  pub nodes : AreTargetSets names edges (sets_of guide.nodes)
  pub steps : All (HasItsSteps edges guide.nodes) guide.nodes
  pub entries : AllZip (IsEntry guide.nodes) names guide.entries

-- the guide stands for the database, and its nodes stand in the order of their least paths
pub record IsOrderedGuide (guide : GuideGraph) (names : List (List ℕ × Oid)) (edges : List Edge) : Type 0 where
  pub stands : StandsFor guide names edges
  pub order : AreInPathOrder names edges (sets_of guide.nodes)

-- How a guide is read.

-- the node that the name is bound to
abbrev pub node_of : List (List ℕ × Node) → List ℕ → Option Node
node_of entries name = lookup (is_at (bytes_cmp name)) entries

-- the node has an edge with the label to the other one
abbrev pub HasEdge : List GuideNode → Node → Label → Node → Type 0
HasEdge nodes node label next =
    (there : GuideNode) × (slice_get nodes node.0 ≡ Some there) × Contains there.edges (label, next)

-- the edge at a place among those of the node
abbrev pub edge_at : List GuideNode → Node → ℕ → Option (Label × Node)
edge_at nodes node i = option_and_then (λ there. slice_get there.edges i) (slice_get nodes node.0)
