use Rattle.std.proofs.Common.{ℕ, ◌<◌, ◌≤◌, ◌-◌, ◌↔◌}
use Rattle.path_expr.specs.Machines.{IsIn, Follows}
use Rattle.path_expr.proofs.mover.followers.Given as goal

abbrev pub invariant-states : goal.invariant-states
invariant-states l = record {
  within : l.from ≤ 128;
  exact : (next : ℕ) → IsIn l.after next ↔ ((state : ℕ) × IsIn l.states state × (state < l.from) × Follows l.automaton state next);
}

abbrev pub decreases-states : goal.decreases-states
decreases-states l = 128 - l.from
