-- A machine that reads backwards: where another one ends it begins.
use Rattle.std.specs.Prelude.{◌≡◌, ◌↔◌, ℕ, ◌<◌, ◌⊎◌, length}
use Rattle.path_expr.specs.Types.{END}
use Rattle.path_expr.specs.Machines.{Machine, IsIn, Follows}

-- a state comes before another one: that may follow it, or it is the end and the other one a start
abbrev pub Precedes : Machine → ℕ → ℕ → Type 0
Precedes machine other state = Follows machine other state ⊎ ((other ≡ END) × IsIn machine.start state)

-- the leaves are the same, and each state is followed by those that come before it in the other machine
pub record Reverses (machine back : Machine) : Type 0 where
  pub leaves : back.leaves ≡ machine.leaves
  pub starts : (state : ℕ) → IsIn back.start state ↔ Precedes machine state END
  pub follows : (state next : ℕ) → Follows back state next ↔ ((state < length machine.leaves) × Precedes machine next state)
