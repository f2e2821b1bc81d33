use Rattle.path_expr.proofs.ReverseLaws.{BeforeSoFar}
use Rattle.path_expr.proofs.automata.Automaton.reversed.Given as goal

abbrev pub invariant-states : goal.invariant-states
invariant-states l = BeforeSoFar l.fn.self l.follow.items l.state
