-- Blocks of objects by backward bisimulation, and the graph of blocks (Milo and Suciu 1999, the 1-index).
use Rattle.std.specs.Prelude.{◌≡◌, ◌≢◌, ◌↔◌, ◌⊎◌, ℕ, ◌+◌, ◌<◌, List, [], Some, slice_get}
use Rattle.std.specs.Prelude.{All, AllPairs, Contains}
use Rattle.std.specs.Ordering.{nat_cmp, ordering_then}
use Rattle.std.specs.declared.cmp.Ordering.{Ordering}
use Rattle.std.specs.declared.cmp.Ordering.TheVariants.{Less}
use Rattle.lore_base.specs.Walks.{edge_of}
use Rattle.read_costs.specs.ReadCosts.{out_reads, in_reads}
use Rattle.one_index.specs.Types.{Oid, Label, Edge, Block}

-- the part of a database that decides its blocks: names with their objects, the live objects, and edges
pub record NamedGraph : Type 0 where
  pub names : List (List ℕ × Oid)
  pub objects : List Oid
  pub edges : List Edge

abbrev pub named_graph_of : List (List ℕ × Oid) → List Oid → List Edge → NamedGraph
named_graph_of names objects edges = record { names = names; objects = objects; edges = edges }

-- objects ascend, names and edges have live objects at their ends, and no name has two objects
pub record IsSound (graph : NamedGraph) : Type 0 where
  pub ascend : AllPairs (λ a b. a.0 < b.0) graph.objects
  pub linked : (edge : Edge) → Contains graph.edges edge
      → Contains graph.objects edge.parent × Contains graph.objects edge.child
  pub named : (name : List ℕ) (x : Oid) → Contains graph.names (name, x) → Contains graph.objects x
  pub one : (name : List ℕ) (x y : Oid) → Contains graph.names (name, x) → Contains graph.names (name, y)
      → x ≡ y

-- Which objects belong together.

abbrev pub HaveSameNames : NamedGraph → Oid → Oid → Type 0
HaveSameNames graph x y = (name : List ℕ) → Contains graph.names (name, x) ↔ Contains graph.names (name, y)

-- a list of pairs of live objects that is a backward bisimulation: with a pair it has the same pair the other
-- way round; both objects of a pair have the same names; and for each edge that enters the one, an edge with
-- its label enters the other, and the list has the pair of their parents
pub record IsBackward (graph : NamedGraph) (pairs : List (Oid × Oid)) : Type 0 where
  pub live : (x y : Oid) → Contains pairs (x, y) → Contains graph.objects x × Contains graph.objects y
  pub symmetric : (x y : Oid) → Contains pairs (x, y) → Contains pairs (y, x)
  pub named : (x y : Oid) → Contains pairs (x, y) → HaveSameNames graph x y
  pub entered : (x y parent : Oid) (label : Label) → Contains pairs (x, y)
      → Contains graph.edges (edge_of parent label x)
      → (other : Oid) × Contains graph.edges (edge_of other label y) × Contains pairs (parent, other)

-- two objects belong together: they are one, or some backward bisimulation has their pair
abbrev pub BelongTogether : NamedGraph → Oid → Oid → Type 0
BelongTogether graph x y =
    (x ≡ y) ⊎ ((pairs : List (Oid × Oid)) × IsBackward graph pairs × Contains pairs (x, y))

-- Blocks, by their numbers from 0 on: each has members, and edges, each a label with the number of a block.

-- the object is in the block with the number
abbrev pub IsMember : List Block → ℕ → Oid → Type 0
IsMember blocks number oid =
    (block : Block) × (slice_get blocks number ≡ Some block) × Contains block.members oid

-- the block with the number has an edge by the label to another
abbrev pub HasEdge : List Block → ℕ → Label → ℕ → Type 0
HasEdge blocks from label to =
    (block : Block) × (slice_get blocks from ≡ Some block) × Contains block.edges (label, to)

-- some object of the one block has an edge by the label to some object of the other
pub record IsLinkedTo (graph : NamedGraph) (blocks : List Block) (from : ℕ) (label : Label) (to : ℕ)
    : Type 0 where
  pub parent : Oid
  pub child : Oid
  pub parent_in : IsMember blocks from parent
  pub child_in : IsMember blocks to child
  pub edge : Contains graph.edges (edge_of parent label child)

-- below each object of the other block stands one of this block: its least object is the lesser one
abbrev pub IsBefore : Block → Block → Type 0
IsBefore block other =
    (y : Oid) → Contains other.members y → (x : Oid) × Contains block.members x × (x.0 < y.0)

-- labels with blocks in order
abbrev pub block_edge_cmp : Label × ℕ → Label × ℕ → Ordering
block_edge_cmp a b = ordering_then (nat_cmp a.0.0 b.0.0) (nat_cmp a.1 b.1)

-- the members of a block ascend, and its edges ascend by label and block
pub record IsOrderedBlock (block : Block) : Type 0 where
  pub members : AllPairs (λ a b. a.0 < b.0) block.members
  pub edges : AllPairs (λ a b. block_edge_cmp a b ≡ Less) block.edges

-- the blocks of a graph: the objects that belong together, in the order of their least objects, and the edges
-- between them
pub record AreBlocksOf (graph : NamedGraph) (blocks : List Block) : Type 0 where
  pub some : All (λ block. block.members ≢ []) blocks
  pub ordered : All IsOrderedBlock blocks
  pub order : AllPairs IsBefore blocks
  pub every : (x : Oid) → Contains graph.objects x → (number : ℕ) × IsMember blocks number x
  pub live : (number : ℕ) (x : Oid) → IsMember blocks number x → Contains graph.objects x
  pub exact : (a b : ℕ) (x y : Oid) → IsMember blocks a x → IsMember blocks b y
      → (a ≡ b) ↔ BelongTogether graph x y
  pub linked : (from : ℕ) (label : Label) (to : ℕ)
      → HasEdge blocks from label to ↔ IsLinkedTo graph blocks from label to

-- Reads.

-- what it costs at most to read an object's edges once each way: two steps, and one for each edge
abbrev pub cost_of : List Edge → Oid → ℕ
cost_of edges oid = out_reads edges oid + in_reads edges oid
