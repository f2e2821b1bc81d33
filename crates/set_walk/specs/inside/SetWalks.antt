-- A graph of sets walked by a machine: nodes under the states that the machine is in there.
use Rattle.std.specs.Prelude.{◌≡◌, ◌↔◌, ℕ, zero, suc, ◌<◌, ◌⊎◌, List, Option, Some, Contains, refl}
use Rattle.std.specs.Int.{bit_at}
use Rattle.std.proofs.Common.{inl, inr, arith}
use Rattle.std.proofs.lemmas.Nat.Bits.{bit_at-lt}
use Rattle.path_expr.specs.Machines.{Machine, IsIn, Moves, StepsTo}
use Rattle.graph_search.specs.Closures.{IsMet}
use Rattle.set_walk.specs.Types.{Oid, Label, States, StateMarks, END}

-- the state is in the set
abbrev pub HasState : StateMarks → ℕ → Type 0
HasState set state = IsIn set.0 state

abbrev pub marks : States → StateMarks
marks states = record { 0 = states }

-- a state is in a set, or it isn't
pub told_in : (states : States) (state : ℕ) → IsIn states state ⊎ (IsIn states state → ⊥)
told_in states state = by (bit_at states.0 state) (bit_at-lt states.0 state) refl
  where
    by : (bit : ℕ) → bit < 2 → bit_at states.0 state ≡ bit → IsIn states state ⊎ (IsIn states state → ⊥)
    by zero below is = inr (λ h. omega (arith, is, h))
    by (suc bit) below is = inl (omega (arith, is, below))

-- a graph, label texts and a machine
pub record Walked (G : Type 0) : Type 0 where
  pub graph : G
  pub labels : List (List ℕ)
  pub machine : Machine

abbrev pub walked_of : {G : Type 0} → G → List (List ℕ) → Machine → Walked G
walked_of graph labels machine = record { graph = graph; labels = labels; machine = machine }

-- an edge leads from one node to another, and its label from the state at the first to that at the second
abbrev pub Leads : {N : Type 0} → (N → Label → N → Type 0) → List (List ℕ) → Machine → N × ℕ → N × ℕ → Type 0
Leads goes labels machine here there =
    (label : Label) × goes here.0 label there.0 × Moves labels machine here.1 label there.1

-- one of the edges leads to the node there, and its label from one of the states to the state there
abbrev pub IsNext : {N : Type 0} → List (List ℕ) → Machine → List (Label × N) → States → N × ℕ → Type 0
IsNext labels machine edges states there =
    (label : Label) × Contains edges (label, there.0) × StepsTo labels machine states label there.1

-- the start, if there is one, under these states
abbrev pub AreStarts : {N : Type 0} → Option N → States → List (N × StateMarks) → Type 0
AreStarts {N} start states starts = (node : N) (state : ℕ)
    → IsMet HasState starts (node, state) ↔ ((start ≡ Some node) × IsIn states state)

-- a node that has the object is met at the end
abbrev pub IsEnded : {N : Type 0} → (N → Oid → Type 0) → List (N × StateMarks) → Oid → Type 0
IsEnded {N} has met oid = (node : N) × IsMet HasState met (node, END) × has node oid

-- no node is met at the end
abbrev pub NoneEnds : {N : Type 0} → List (N × StateMarks) → Type 0
NoneEnds {N} met = (node : N) → IsMet HasState met (node, END) → ⊥

-- this node is met at the end, and no other one
abbrev pub IsOnlyEnd : {N : Type 0} → List (N × StateMarks) → N → Type 0
IsOnlyEnd {N} met only = (node : N) → IsMet HasState met (node, END) ↔ (node ≡ only)
