use Rattle.std.proofs.Common.{◌≡◌}
use Rattle.path_expr.specs.Machines.{IsIn, Follows}
use Rattle.path_expr.proofs.StateLaws.{HasSoFar}
use Rattle.path_expr.proofs.automata.Automaton.before.Given as goal

abbrev pub invariant-leaves : goal.invariant-leaves
invariant-leaves l = HasSoFar (λ other. (other ≡ 64) × IsIn l.self.start l.state) (λ other. Follows l.self other l.state) l.before l.other
