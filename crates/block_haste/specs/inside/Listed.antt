-- The edges of rows as one list, and the places of the edges that leave each node.
use Rattle.std.specs.Prelude.{◌≡◌, ◌↔◌, ◌⊎◌, ℕ, ◌<◌, List, length, slice_index, Contains}
use Rattle.block_rounds.specs.Gathered.{AreGathered}
use Rattle.block_rounds.specs.Partitions.{Rows, Enters}
use Rattle.block_haste.specs.inside.Recounting.{edge_at}

-- the edges behind the old ones are those of the row, which enter the node
abbrev pub AreRowListed : ℕ → List (ℕ × ℕ) → List (ℕ × ℕ × ℕ) → List (ℕ × ℕ × ℕ) → Type 0
AreRowListed node row old new = (edge : ℕ × ℕ × ℕ) → Contains new edge
    ↔ (Contains old edge ⊎ ((edge.2 ≡ node) × Contains row (edge.1, edge.0)))

-- the edges are those that enter the nodes below a count
abbrev pub AreRowsBelow : ℕ → Rows → List (ℕ × ℕ × ℕ) → Type 0
AreRowsBelow count rows edges = (edge : ℕ × ℕ × ℕ) → Contains edges edge
    ↔ ((edge.2 < count) × Enters rows edge.0 edge.1 edge.2)

abbrev pub AreRowsListed : Rows → List (ℕ × ℕ × ℕ) → Type 0
AreRowsListed rows edges = AreRowsBelow (length rows) rows edges

-- the places below a count, each with the parent of its edge
abbrev pub ArePairsBelow : ℕ → List (ℕ × ℕ × ℕ) → List (ℕ × ℕ) → Type 0
ArePairsBelow count edges pairs = (parent place : ℕ) → Contains pairs (parent, place)
    ↔ ((place < count) × ((edge_at edges place).0 ≡ parent))

abbrev pub AreOutPairs : List (ℕ × ℕ × ℕ) → List (ℕ × ℕ) → Type 0
AreOutPairs edges pairs = ArePairsBelow (length edges) edges pairs

-- the nodes below a count, each with its number
abbrev pub AreNumbersBelow : ℕ → List ℕ → List (ℕ × ℕ) → Type 0
AreNumbersBelow count numbers pairs = (number node : ℕ) → Contains pairs (number, node)
    ↔ ((node < count) × (slice_index numbers node ≡ number))

-- the lists have the nodes of each block
abbrev pub AreOfBlocks : List ℕ → List (List ℕ) → Type 0
AreOfBlocks numbers lists = (pairs : List (ℕ × ℕ)) × AreNumbersBelow (length numbers) numbers pairs × AreGathered pairs lists
