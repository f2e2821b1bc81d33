use Rattle.path_expr.specs.Machines.{Reads}
use Rattle.path_expr.proofs.StateLaws.{HasSoFar}
use Rattle.path_expr.proofs.automata.Automaton.readers.Given as goal

abbrev pub invariant-states : goal.invariant-states
invariant-states g l = HasSoFar (λ _. ⊥) (λ state. Reads (g.T.LabelTest.texts l.labels) l.self state l.label) l.readers l.state
