-- Chains of places: for each slot the edges that fall into it, from the last one on.
use Rattle.std.specs.Prelude.{◌≡◌, ◌≢◌, ◌↔◌, ℕ, ◌-◌, ◌%◌, ◌<◌, ◌≤◌, List, length, slice_index_or, All, AllPairs, Contains}
use Rattle.lore_base.specs.Databases.{AreAscendingEdges}
use Rattle.edge_layers.specs.Types.{Oid, Edge, In}
use Rattle.edge_layers.specs.Turned.{turn}

-- the number of the child
abbrev pub child_of : Edge → ℕ
child_of edge = edge.child.0

-- the number of the label
abbrev pub label_of : Edge → ℕ
label_of edge = edge.label.0

-- the slot of a key among so many
abbrev pub slot_among : ℕ → (Edge → ℕ) → Edge → ℕ
slot_among count key edge = key edge % count

-- one above the place of the last edge before the bound that falls into the slot, or 0 where none does
pub record IsLast (slot_of : Edge → ℕ) (edges : List Edge) (slot bound last : ℕ) : Type 0 where
  pub within : last ≤ bound
  pub none : (k : ℕ) (d : Edge) → last ≤ k → k < bound → slot_of (slice_index_or edges k d) ≢ slot
  pub found : 0 < last → (d : Edge) → slot_of (slice_index_or edges (last - 1) d) ≡ slot

-- the last edges before the bound that fall into the slots
abbrev pub AreHeads : (Edge → ℕ) → List Edge → List ℕ → ℕ → Type 0
AreHeads slot_of edges heads bound = (slot : ℕ) → slot < length heads → IsLast slot_of edges slot bound (slice_index_or heads slot 0)

-- for each edge before the bound the one before it in its slot
pub record AreBack (slot_of : Edge → ℕ) (edges : List Edge) (back : List ℕ) (bound : ℕ) : Type 0 where
  pub each : (k : ℕ) (d : Edge) → k < bound → IsLast slot_of edges (slot_of (slice_index_or edges k d)) k (slice_index_or back k 0)
  pub long : length back ≡ bound

-- the chains of the edges by a key
pub record AreChains (key : Edge → ℕ) (edges : List Edge) (heads back : List ℕ) : Type 0 where
  pub some : 0 < length edges → 0 < length heads
  pub first : AreHeads (slot_among (length heads) key) edges heads (length edges)
  pub linked : AreBack (slot_among (length heads) key) edges back (length edges)

-- the edges that enter an object, turned round, in ascending order
pub record IsEnteringRun (edges : List Edge) (oid : Oid) (run : List Edge) : Type 0 where
  pub ascend : AreAscendingEdges run
  pub exact : (edge : Edge) → Contains run edge ↔ (Contains edges (turn In edge) × (edge.parent ≡ oid))

-- the places, each once, of the edges in the slots above this one, and of those in this one from a place on
pub record ArePutFrom (slot_of : Edge → ℕ) (edges : List Edge) (slot above : ℕ) (places : List ℕ) : Type 0 where
  pub within : All (λ place. place < length edges) places
  pub once : AllPairs (λ a b. a ≢ b) places
  pub least : (place : ℕ) (d : Edge) → Contains places place → slot ≤ slot_of (slice_index_or edges place d)
  pub behind : (place : ℕ) (d : Edge) → Contains places place → slot_of (slice_index_or edges place d) ≡ slot → above ≤ place
  pub higher : (place : ℕ) (d : Edge) → place < length edges → slot < slot_of (slice_index_or edges place d) → Contains places place
  pub same : (place : ℕ) (d : Edge) → place < length edges → slot_of (slice_index_or edges place d) ≡ slot → above ≤ place
      → Contains places place
