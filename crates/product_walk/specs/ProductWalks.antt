-- Walks whose words an automaton accepts, and how often they read edges (Mendelzon and Wood 1995).
use Rattle.std.specs.Prelude.{◌==◌, ℕ, ◌+◌, ◌*◌, ◌≤◌, List, length, filter, sum_by, Contains}
use Rattle.product_walk.specs.Types.{Oid, Label, Edge, END}
use Rattle.lore_base.specs.Paths.{PathTree, Reaches}
use Rattle.lore_base.specs.Walks.{Walk, out_of}
use Rattle.path_expr.specs.Machines.{Machine, Accepts}

-- some word is walked from one object to another
abbrev pub IsWalked : List Edge → Oid → Oid → Type 0
IsWalked edges x y = (word : List Label) × Walk edges x word y

-- a member of the list is walked to from the object
abbrev pub WalksInto : List Edge → List Oid → Oid → Type 0
WalksInto edges to x = (y : Oid) × Contains to y × IsWalked edges x y

-- the machine accepts the word, which is walked from one object to another
abbrev pub IsAcceptedWalk : List (List ℕ) → List Edge → Machine → Oid → Oid → List Label → Type 0
IsAcceptedWalk labels edges machine x y word = Accepts labels machine word × Walk edges x word y

-- some word is so
abbrev pub IsAcceptedFrom : List (List ℕ) → List Edge → Machine → Oid → Oid → Type 0
IsAcceptedFrom labels edges machine x y = (word : List Label) × IsAcceptedWalk labels edges machine x y word

-- a word that the machine accepts is walked from the object to a member of the list
abbrev pub IsAcceptedInto : List (List ℕ) → List Edge → Machine → List Oid → Oid → Type 0
IsAcceptedInto labels edges machine to x = (y : Oid) × Contains to y × IsAcceptedFrom labels edges machine x y

-- the path reaches a member of the list from the object
abbrev pub ReachesInto : List (List ℕ) → List Edge → PathTree → List Oid → Oid → Type 0
ReachesInto labels edges path to x = (y : Oid) × Contains to y × Reaches labels edges path x y

-- what it costs to read the edges that leave an object, and those that enter it
abbrev pub reads_out : List Edge → Oid → ℕ
reads_out edges oid = 1 + length (out_of oid edges)

abbrev pub reads_in : List Edge → Oid → ℕ
reads_in edges oid = 1 + length (filter (λ edge. edge.child.0 == oid.0) edges)

-- a count grows by at most 65 reads of each object that passes, one for each state: 65 times the sum over any list
-- that holds them
abbrev pub TakesReads : (Oid → ℕ) → (Oid → Type 0) → ℕ → ℕ → Type 0
TakesReads reads Passes before after =
    (all : List Oid) → ((oid : Oid) → Passes oid → Contains all oid) → after ≤ before + (END + 1) * sum_by reads all

-- what paths are sought over: label texts and edges
pub record PathsOver : Type 0 where
  pub labels : List (List ℕ)
  pub edges : List Edge
