use Rattle.std.proofs.Common.{◌≤◌, ◌-◌}
use Rattle.path_expr.specs.Machines.{Moves, UpToEnd}
use Rattle.path_expr.proofs.StateLaws.{LeadsSoFar}
use Rattle.path_expr.proofs.automata.Automaton.step.Given as goal

abbrev pub invariant-states : goal.invariant-states
invariant-states g l = record {
  leads : LeadsSoFar (λ state next. Moves (g.T.LabelTest.texts l.labels) l.self state l.label next) l.states l.after l.from;
  within : UpToEnd l.after;
  small : l.from ≤ 128;
}

abbrev pub decreases-states : goal.decreases-states
decreases-states g l = 128 - l.from
