-- Where each node of a guide is mentioned first, when the entries are read in order and then the edges of one node
-- after another.
use Rattle.std.specs.Prelude.{◌≡◌, ◌⊎◌, ℕ, ◌<◌, Bool, true, false, List, length, Some, slice_get}
use Rattle.dataguide.specs.Guides.{GuideGraph, edge_at, node_number}
use Rattle.guide_query.specs.Types.{Label, Node, GuideNode, Origin, Unmet, Named, Step}

-- how far was read: so many entries, all edges of so many nodes, and so many edges of the next node
pub record Reading : Type 0 where
  pub entries : ℕ
  pub nodes : ℕ
  pub edges : ℕ

-- the edge at a place of a node stands before where the reading is
abbrev pub IsRead : ℕ → ℕ → ℕ → ℕ → Type 0
IsRead node place nodes edges = (node < nodes) ⊎ ((node ≡ nodes) × (place < edges))

-- the node is there and has these edges
abbrev pub HasRow : List GuideNode → Node → List (Label × Node) → Type 0
HasRow nodes node row = (there : GuideNode) × (slice_get nodes node.0 ≡ Some there) × (there.edges ≡ row)

module _ (guide : GuideGraph) where
  -- none of so many entries has the node
  abbrev pub IsUnnamed : ℕ → Node → Type 0
  IsUnnamed places node =
      (place : ℕ) (name : List ℕ) → place < places → slice_get guide.entries place ≡ Some (name, node) → ⊥

  -- no edge that was read leads to the node
  abbrev pub IsUnled : ℕ → ℕ → Node → Type 0
  IsUnled nodes edges node =
      (from place : ℕ) (label : Label) → IsRead from place nodes edges
      → edge_at guide.nodes (node_number from) place ≡ Some (label, node) → ⊥

  -- this is where the node is mentioned first
  abbrev pub IsOrigin : Reading → Node → Origin → Type 0
  IsOrigin reading node Unmet = IsUnnamed reading.entries node × IsUnled reading.nodes reading.edges node
  IsOrigin reading node (Named place) =
      (name : List ℕ) × (place < reading.entries) × (slice_get guide.entries place ≡ Some (name, node))
      × IsUnnamed place node
  IsOrigin reading node (Step from label) =
      IsUnnamed reading.entries node
      × (place : ℕ) × IsRead from.0 place reading.nodes reading.edges
      × (edge_at guide.nodes from place ≡ Some (label, node)) × IsUnled from.0 place node

  -- each node has its origin
  pub record AreOrigins (reading : Reading) (origins : List Origin) : Type 0 where
    pub long : length origins ≡ length guide.nodes
    pub each : (k : ℕ) (origin : Origin) → slice_get origins k ≡ Some origin
        → IsOrigin reading (node_number k) origin

-- the first of two mentions, where there is a second
abbrev pub first_of : Bool → Origin → Origin → Origin
first_of false there origin = there
first_of true Unmet origin = origin
first_of true (Named place) origin = Named place
first_of true (Step from label) origin = Step from label
