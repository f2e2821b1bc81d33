-- Refinement that looks only at nodes which edges enter from parents with new numbers. Tags are the numbers
-- of an older partition.
use Rattle.std.specs.Prelude.{◌≡◌, ◌≢◌, ◌↔◌, ◌⊎◌, ℕ, Bool, ◌<◌, List, [], ◌∷◌, ◌++◌, length, slice_index}
use Rattle.std.specs.Prelude.{slice_index_or}
use Rattle.std.specs.Prelude.{slice_get, Option, None, Some, All, Contains}
use Rattle.block_rounds.specs.Partitions.{Rows, Enters, IsCoarse}
use Rattle.block_rounds.specs.Given.{IsGiven, StayTogether}
use Rattle.block_haste.specs.inside.Tallies.{Key}
use Rattle.block_haste.specs.inside.Marking.{Change, AreMarkedBy, AreEdgesOf, keys_of}
use Rattle.block_haste.specs.inside.Recounting.{edge_at}

-- an edge with the label enters the node from a parent with this tag and this number
abbrev pub IsFromBoth : Rows → List ℕ → List ℕ → ℕ → ℕ → ℕ → ℕ → Type 0
IsFromBoth rows tags numbers node label tag number =
    (parent : ℕ) × Enters rows parent label node × (slice_index tags parent ≡ tag)
    × (slice_index numbers parent ≡ number)

abbrev pub AreEnteredAlikeFromBoth : Rows → List ℕ → List ℕ → ℕ → ℕ → Type 0
AreEnteredAlikeFromBoth rows tags numbers x y = (label tag number : ℕ)
    → IsFromBoth rows tags numbers x label tag number ↔ IsFromBoth rows tags numbers y label tag number

-- nodes of one block that are entered alike have one mark
abbrev pub AreFair : Rows → List ℕ → List ℕ → List (Option ℕ) → Type 0
AreFair rows tags numbers marks = (x y : ℕ) → x < length rows → y < length rows
    → slice_index numbers x ≡ slice_index numbers y
    → AreEnteredAlikeFromBoth rows tags numbers x y
    → slice_index_or marks x None ≡ slice_index_or marks y None

-- blocks get other numbers, perhaps some the same: nodes of one block are of one block afterwards
abbrev pub AreRenamed : List ℕ → List ℕ → Type 0
AreRenamed numbers next = (x y : ℕ) → x < length numbers → y < length numbers
    → slice_index numbers x ≡ slice_index numbers y → slice_index next x ≡ slice_index next y

-- Moves.

-- moves of nodes to numbers, each as its number and mark give it: every touched node is moved
pub record AreMovesBy (fresh : ℕ × ℕ → Option ℕ) (touched numbers : List ℕ) (marks : List (Option ℕ))
    (moves : List (ℕ × ℕ)) : Type 0 where
  pub given :
      All (λ move. IsGiven fresh (slice_index numbers move.0) (slice_index_or marks move.0 None) move.1) moves
  pub every : All (λ node. (number : ℕ) × Contains moves (node, number)) touched
  pub only : All (λ move. Contains touched move.0) moves

abbrev pub AreMoves : List ℕ → List ℕ → List (Option ℕ) → List (ℕ × ℕ) → Type 0
AreMoves touched numbers marks moves = (fresh : ℕ × ℕ → Option ℕ)
    × AreMovesBy fresh touched numbers marks moves

-- a node that is moved has a number that it is moved to, and another one has the number that it had
abbrev pub AreWritten : List (ℕ × ℕ) → List ℕ → List ℕ → Type 0
AreWritten moves old new = (node : ℕ) → node < length old
    → Contains moves (node, slice_index new node)
    ⊎ ((slice_index new node ≡ slice_index old node) × ((number : ℕ) → Contains moves (node, number) → ⊥))

-- each node with a mark is touched
abbrev pub AreTouched : List (Option ℕ) → List ℕ → Type 0
AreTouched marks touched = (node : ℕ) → (slice_index_or marks node None ≡ None) ⊎ Contains touched node

-- the node is listed, or its mark says that it is already
abbrev pub IsTouchedBy : ℕ → Option ℕ → List ℕ → List ℕ → Type 0
IsTouchedBy node mark old new = (new ≡ old ++ node ∷ []) ⊎ ((mark ≢ None) × (new ≡ old))

-- no node has a mark
abbrev pub HaveNoMarks : List (Option ℕ) → Type 0
HaveNoMarks marks = (node : ℕ) → slice_index_or marks node None ≡ None

-- each node whose number isn't its tag is among the changed ones
abbrev pub AreChanged : List ℕ → List ℕ → List ℕ → Type 0
AreChanged tags numbers changed =
    (node : ℕ) → node < length numbers
    → (slice_index tags node ≡ slice_index numbers node) ⊎ Contains changed node

-- the node is noted as changed, or its number is its tag
abbrev pub IsNoted : ℕ → ℕ → ℕ → List ℕ → List ℕ → Type 0
IsNoted node tag number old new = ((tag ≡ number) × (new ≡ old)) ⊎ (new ≡ old ++ node ∷ [])

-- Lists of the nodes that were put into blocks.

-- each node stands in the list of its block
abbrev pub AreInLists : List (List ℕ) → List ℕ → Type 0
AreInLists lists numbers = (node : ℕ) → node < length numbers
    → Contains (slice_index_or lists (slice_index numbers node) []) node

-- what stands in a list stays there
abbrev pub KeepLists : List (List ℕ) → List (List ℕ) → Type 0
KeepLists old new = (number node : ℕ) → Contains (slice_index_or old number []) node
    → Contains (slice_index_or new number []) node

-- and does so in all lists but one
abbrev pub KeepOthers : ℕ → List (List ℕ) → List (List ℕ) → Type 0
KeepOthers one old new = (number node : ℕ) → number ≢ one → Contains (slice_index_or old number []) node
    → Contains (slice_index_or new number []) node

-- each node that is moved stands in the list of the block that it is moved to
abbrev pub AreFiled : List (ℕ × ℕ) → List (List ℕ) → Type 0
AreFiled moves lists = All (λ move. Contains (slice_index_or lists move.1 []) move.0) moves

-- the move stands behind the others, or the node has that number
abbrev pub IsChange : ℕ × ℕ → ℕ → List (ℕ × ℕ) → List (ℕ × ℕ) → Type 0
IsChange move number old new = ((number ≡ move.1) × (new ≡ old)) ⊎ (new ≡ old ++ move ∷ [])

-- each move is among the changes, or its node has that number
abbrev pub AreChangesIn : List ℕ → List (ℕ × ℕ) → List (ℕ × ℕ) → Type 0
AreChangesIn numbers moves changes =
    All (λ move. (slice_index numbers move.0 ≡ move.1) ⊎ Contains changes move) moves

-- a move to a number of a node of the list that is in the block
abbrev pub IsMovedFrom : List ℕ → List ℕ → ℕ → ℕ → ℕ × ℕ → Type 0
IsMovedFrom list numbers from to move =
    (move.1 ≡ to) × Contains list move.0 × (slice_get numbers move.0 ≡ Some from)

-- the move of the node stands behind the others, or the node isn't in the block
abbrev pub IsMovePushed : List ℕ → ℕ → ℕ → ℕ → List (ℕ × ℕ) → List (ℕ × ℕ) → Type 0
IsMovePushed numbers from to node old new =
    ((slice_get numbers node ≡ Some from) × (new ≡ old ++ (node, to) ∷ []))
    ⊎ ((slice_get numbers node ≢ Some from) × (new ≡ old))

-- moves of the nodes of two blocks, each to the other
pub record AreSwaps (one other : ℕ) (numbers : List ℕ) (moves : List (ℕ × ℕ)) : Type 0 where
  pub within : All (λ move. move.0 < length numbers) moves
  pub swapped : All (λ move. ((slice_index numbers move.0 ≡ one) × (move.1 ≡ other))
      ⊎ ((slice_index numbers move.0 ≡ other) × (move.1 ≡ one))) moves
  pub every : (node : ℕ) → node < length numbers
      → (slice_index numbers node ≡ one) ⊎ (slice_index numbers node ≡ other)
      → (number : ℕ) × Contains moves (node, number)

-- blocks have other numbers, and the nodes that got other ones are among the changed ones
pub record AreExchanged (old before new after : List ℕ) : Type 0 where
  pub renamed : AreRenamed old new
  pub every : length new ≡ length old
  pub kept : (node : ℕ) → Contains before node → Contains after node
  pub changed : AreChanged old new after
  pub within : All (λ node. node < length old) after

-- Rounds.

-- the edges as one list, and for each node the places of those that leave it
pub record AreListed (rows : Rows) (edges : List (ℕ × ℕ × ℕ)) (outs : List (List ℕ)) : Type 0 where
  pub exact : AreEdgesOf rows edges
  pub parents : All (λ edge. edge.0 < length rows) edges
  pub nodes : All (λ edge. edge.2 < length rows) edges
  pub every : length outs ≡ length rows
  pub within : All (λ places. All (λ place. place < length edges) places) outs
  pub placed : (place : ℕ) → place < length edges
      → Contains (slice_index_or outs (edge_at edges place).0 []) place

-- what hastening rounds keep
pub record IsHastening (rows : Rows) (kinds : List ℕ) (edges : List (ℕ × ℕ × ℕ)) (tags numbers : List ℕ)
    (tally : List Key) (lists : List (List ℕ)) (changed : List ℕ) (marks : List (Option ℕ)) : Type 0 where
  pub coarse : IsCoarse rows kinds numbers
  pub older : IsCoarse rows kinds tags
  pub counted : tally ≡ keys_of edges tags
  pub listed : AreInLists lists numbers
  pub changes : AreChanged tags numbers changed
  pub every : length numbers ≡ length rows
  pub tagged : length tags ≡ length rows
  pub marked : length marks ≡ length rows
  pub unmarked : HaveNoMarks marks
  pub within : All (λ node. node < length rows) changed

-- blocks are parted by the marks that the events give, and the nodes that get other numbers are touched
pub record IsParted (still : Key → Bool) (events : List (ℕ × Change)) (old new touched : List ℕ)
    : Type 0 where
  pub marks : List (Option ℕ)
  pub every : length marks ≡ length old
  pub marked : AreMarkedBy still events marks
  pub together : StayTogether old marks new
  pub changed : AreChanged old new touched

-- each edge whose parent's number isn't its tag leaves a changed node
abbrev pub AreReached : List (ℕ × ℕ × ℕ) → List (List ℕ) → List ℕ → List ℕ → List ℕ → Type 0
AreReached edges outs tags numbers changed = (place : ℕ) → place < length edges
    → (slice_index tags (edge_at edges place).0 ≡ slice_index numbers (edge_at edges place).0)
    ⊎ (Contains changed (edge_at edges place).0
    × Contains (slice_index_or outs (edge_at edges place).0 []) place)
