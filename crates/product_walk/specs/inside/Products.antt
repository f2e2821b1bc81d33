-- The product of a graph with a machine: objects under the states that the machine is in there.
use Rattle.std.specs.Prelude.{◌≡◌, ℕ, List, reverse, Contains}
use Rattle.lore_base.specs.Walks.{Walk}
use Rattle.path_expr.specs.Machines.{Machine, Moving, Accepts, Moves, MovesThrough, StepsTo}
use Rattle.product_walk.specs.Types.{Oid, Label, Edge, States}
use Rattle.product_walk.specs.inside.Arcs.{WalkBy}

-- label texts, a machine and edges
pub record Product : Type 0 where
  pub labels : List (List ℕ)
  pub machine : Machine
  pub edges : List Edge

abbrev pub product_of : Moving → List Edge → Product
product_of moving edges = record { labels = moving.labels; machine = moving.machine; edges = edges }

-- an arc leads from one object to another, and its label from the state at the first to that at the second
abbrev pub Leads : List (List ℕ) → Machine → (Oid → Label → Oid → Type 0) → Oid × ℕ → Oid × ℕ → Type 0
Leads labels machine goes here there =
    (label : Label) × goes here.0 label there.0 × Moves labels machine here.1 label there.1

-- a word leads from a start to the object, and from the start's state to the state there
abbrev pub CanBe : List (List ℕ) → Machine → (Oid → Label → Oid → Type 0) → (Oid × ℕ → Type 0) → Oid × ℕ → Type 0
CanBe labels machine goes Starts there =
    (start : Oid × ℕ) × (word : List Label) × Starts start × MovesThrough labels machine start.1 word there.1 × WalkBy goes start.0 word there.0

-- one of the edges leads to the object, and its label from one of the states to the state there
abbrev pub IsNext : List (List ℕ) → Machine → (Edge → Oid) → List Edge → States → Oid × ℕ → Type 0
IsNext labels machine far edges states there =
    (edge : Edge) × Contains edges edge × (far edge ≡ there.0) × StepsTo labels machine states edge.label there.1

-- the machine accepts the word when it is read backwards
abbrev pub ReadsTurned : List (List ℕ) → Machine → List Label → Type 0
ReadsTurned labels turned word = Accepts labels turned (reverse word)

-- a word that passes is walked from one object to another
abbrev pub ReadsFrom : List Edge → (List Label → Type 0) → Oid → Oid → Type 0
ReadsFrom edges Passes x y = (word : List Label) × Passes word × Walk edges x word y

-- or from the object to a member of the list
abbrev pub ReadsInto : List Edge → (List Label → Type 0) → List Oid → Oid → Type 0
ReadsInto edges Passes to x = (y : Oid) × Contains to y × ReadsFrom edges Passes x y
