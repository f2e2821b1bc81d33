-- What a mover remembers of an automaton's moves.
use Rattle.std.specs.Prelude.{◌↔◌, ◌==◌, Bool, ℕ, List, Option, IfSome}
use Rattle.path_expr.specs.Machines.{Machine, IsIn, Reads, Follows, IsStep}
use Rattle.path_expr.specs.Types.{Label, States}
use Rattle.path_expr.specs.declared.mover.Move.{Move}

-- a state may come after one of the set
abbrev pub FollowsSome : Machine → States → ℕ → Type 0
FollowsSome machine states next = (state : ℕ) × IsIn states state × Follows machine state next

-- the test for one label
abbrev pub same_label : Label → Label → Bool
same_label a b = a.0 == b.0

-- the states that read a label
abbrev pub AreReaders : List (List ℕ) → Machine → Label → States → Type 0
AreReaders labels machine label readers = (state : ℕ) → IsIn readers state ↔ Reads labels machine state label

-- a move on a label: the states that read it, and where it leads from some states
pub record IsMove (labels : List (List ℕ)) (machine : Machine) (label : Label) (move : Move) : Type 0 where
  pub readers : AreReaders labels machine label move.readers
  pub step : IsStep labels machine move.from label move.after

-- what is remembered of a label is a move on it
abbrev pub Remembers : List (List ℕ) → Machine → (Label → Option Move) → Type 0
Remembers labels machine moves = (label : Label) → IfSome (moves label) (IsMove labels machine label)
