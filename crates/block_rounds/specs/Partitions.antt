-- Partitions of the nodes of a graph into blocks, and which of them is that of backward bisimulation (Milo
-- and Suciu 1999, the 1-index). Nodes are the numbers below a length. Node i has row i: label and parent of
-- each edge that enters it. A partition gives each node the number of its block.
use Rattle.std.specs.Prelude.{◌≡◌, ◌↔◌, ◌⊎◌, ℕ, ◌<◌, ◌≤◌, List, [], length, slice_index}
use Rattle.std.specs.Prelude.{slice_index_or, All, AllPairs, Contains}

-- the edges that enter nodes
abbrev pub Rows : Type 0
Rows = List (List (ℕ × ℕ))

-- an edge with the label enters the node from the parent
abbrev pub Enters : Rows → ℕ → ℕ → ℕ → Type 0
Enters rows parent label node = Contains (slice_index_or rows node []) (label, parent)

-- all parents are nodes
abbrev pub AreWithin : Rows → Type 0
AreWithin rows = All (λ row. All (λ entry. entry.1 < length rows) row) rows

-- the pairs are a backward bisimulation: with a pair they have the same pair the other way round; both nodes
-- of a pair are of one kind; and for each edge that enters the one, an edge with its label enters the other,
-- and their parents are a pair
pub record IsBisimulation (rows : Rows) (kinds : List ℕ) (pairs : List (ℕ × ℕ)) : Type 0 where
  pub live : (x y : ℕ) → Contains pairs (x, y) → (x < length rows) × (y < length rows)
  pub symmetric : (x y : ℕ) → Contains pairs (x, y) → Contains pairs (y, x)
  pub alike : (x y : ℕ) → Contains pairs (x, y) → slice_index kinds x ≡ slice_index kinds y
  pub entered : (x y parent label : ℕ) → Contains pairs (x, y) → Enters rows parent label x
      → (other : ℕ) × Enters rows other label y × Contains pairs (parent, other)

-- two nodes belong together: they are one, or some bisimulation has their pair
abbrev pub AreBisimilar : Rows → List ℕ → ℕ → ℕ → Type 0
AreBisimilar rows kinds x y =
    (x ≡ y) ⊎ ((pairs : List (ℕ × ℕ)) × IsBisimulation rows kinds pairs × Contains pairs (x, y))

-- nodes have one number exactly where they belong together
abbrev pub AreBlocks : Rows → List ℕ → List ℕ → Type 0
AreBlocks rows kinds numbers = (x y : ℕ) → x < length rows → y < length rows
    → (slice_index numbers x ≡ slice_index numbers y) ↔ AreBisimilar rows kinds x y

-- each node has a number, which is one of the blocks, and each block has a node for its head
pub record IsNumbered (nodes : ℕ) (numbers heads : List ℕ) : Type 0 where
  pub every : length numbers ≡ nodes
  pub numbered : All (λ number. number < length heads) numbers
  pub headed : All (λ head. head < nodes) heads

-- the heads are nodes of their blocks, the first ones, and ascend: blocks are numbered by their first nodes
pub record IsInOrder (numbers heads : List ℕ) : Type 0 where
  pub own : (block : ℕ) → block < length heads → slice_index numbers (slice_index heads block) ≡ block
  pub first : (node : ℕ) → node < length numbers → slice_index heads (slice_index numbers node) ≤ node
  pub ascend : AllPairs (λ a b. a < b) heads

-- nodes are in one block exactly where they were
abbrev pub AreSameBlocks : List ℕ → List ℕ → Type 0
AreSameBlocks numbers next = (x y : ℕ) → x < length numbers → y < length numbers
    → (slice_index next x ≡ slice_index next y) ↔ (slice_index numbers x ≡ slice_index numbers y)

-- What decides a partition.

-- an edge with the label enters the node from the block with the number
abbrev pub IsFrom : Rows → List ℕ → ℕ → ℕ × ℕ → Type 0
IsFrom rows numbers node from =
    (parent : ℕ) × Enters rows parent from.0 node × (slice_index numbers parent ≡ from.1)

-- edges enter both nodes by the same labels from the same blocks
abbrev pub AreEnteredAlike : Rows → List ℕ → ℕ → ℕ → Type 0
AreEnteredAlike rows numbers x y = (from : ℕ × ℕ) → IsFrom rows numbers x from ↔ IsFrom rows numbers y from

-- no bisimulation has a pair of nodes in different blocks
abbrev pub IsCoarse : Rows → List ℕ → List ℕ → Type 0
IsCoarse rows kinds numbers = (pairs : List (ℕ × ℕ)) → IsBisimulation rows kinds pairs
    → (x y : ℕ) → Contains pairs (x, y) → slice_index numbers x ≡ slice_index numbers y

-- nodes of one block are of one kind, and edges enter them alike
pub record IsStable (rows : Rows) (kinds numbers : List ℕ) : Type 0 where
  pub alike : (x y : ℕ) → x < length rows → y < length rows → slice_index numbers x ≡ slice_index numbers y
      → slice_index kinds x ≡ slice_index kinds y
  pub entered : (x y : ℕ) → x < length rows → y < length rows → slice_index numbers x ≡ slice_index numbers y
      → AreEnteredAlike rows numbers x y

-- a partition that is on its way: its blocks have heads, and it is coarse
pub record IsRefining (rows : Rows) (kinds numbers heads : List ℕ) : Type 0 where
  pub numbered : IsNumbered (length rows) numbers heads
  pub coarse : IsCoarse rows kinds numbers
