-- The node that a label path leads to, and what is read of it.
use Rattle.std.specs.Prelude.{◌≡◌, ◌≢◌, ◌↔◌, ℕ, List, [], ◌++◌, Some, None, Option, unwrap_or, slice_get}
use Rattle.std.specs.Prelude.{Contains, AllPairs}
use Rattle.lore_base.specs.TargetSets.{ListsInOrder, HasTexts, LeavesTo}
use Rattle.lore_base.specs.Walks.{Walk}
use Rattle.dataguide.specs.Guides.{GuideGraph, HasSet, sets_of}
use Rattle.guide_query.specs.Types.{Oid, Label, Edge, Node, GuideNode}
use Rattle.guide_query.specs.GuideLines.{IsLabelledGuide, size_text}
use Rattle.guide_query.specs.PathLines.{IsWalkedTo}
use Rattle.guide_query.specs.inside.Written.{size_at, step_text}

-- the guide is that of these names and edges, and no two labels have one text
pub record IsReadable (guide : GuideGraph) (labels : List (List ℕ)) (names : List (List ℕ × Oid)) (edges : List Edge)
    : Type 0 where
  pub labelled : IsLabelledGuide guide labels names edges
  pub distinct : AllPairs (λ a b. a ≢ b) labels

-- an edge whose label has the text leads from a member of the set to the object
abbrev pub LeavesBy : List Edge → List (List ℕ) → List Oid → List ℕ → Oid → Type 0
LeavesBy edges labels set text oid =
    (label : Label) × (slice_get labels label.0 ≡ Some text) × LeavesTo edges set label oid

-- the set of the node has what passes, or nothing passes and there is no node
abbrev pub IsNodeOf : List GuideNode → (Oid → Type 0) → Option Node → Type 0
IsNodeOf nodes P None = (oid : Oid) → P oid → ⊥
IsNodeOf nodes P (Some node) = (set : List Oid) × HasSet nodes node set × ListsInOrder P set

-- the set of a node, and its edges; nothing where there is no node
abbrev pub set_at : List GuideNode → Option Node → List Oid
set_at nodes None = []
set_at nodes (Some node) = unwrap_or (slice_get (sets_of nodes) node.0) []

abbrev pub edges_of : Option GuideNode → List (Label × Node)
edges_of None = []
edges_of (Some there) = there.edges

abbrev pub row_at : List GuideNode → Option Node → List (Label × Node)
row_at nodes None = []
row_at nodes (Some node) = edges_of (slice_get nodes node.0)

-- the line of an edge: its label and the size of the set that it leads to
abbrev pub edge_line : GuideGraph → List (List ℕ) → Label × Node → List ℕ
edge_line guide labels edge = step_text (slice_get labels edge.0.0) ++ size_text (size_at guide.nodes edge.1.0)

-- the object is walked to from a member of the set along labels with these texts
abbrev pub GoesOnTo : List Edge → List (List ℕ) → List Oid → List (List ℕ) → Oid → Type 0
GoesOnTo edges labels set texts oid =
    (from : Oid) × Contains set from × (word : List Label) × HasTexts labels texts word × Walk edges from word oid

-- the path goes on from the node's set along the texts that are left
abbrev pub HasComeTo : List GuideNode → List (List ℕ × Oid) → List Edge → List (List ℕ) → List ℕ → List (List ℕ)
    → List (List ℕ) → Node → Type 0
HasComeTo nodes names edges labels name texts left node =
    (set : List Oid) × HasSet nodes node set
    × ((oid : Oid) → IsWalkedTo names edges labels name texts oid ↔ GoesOnTo edges labels set left oid)
