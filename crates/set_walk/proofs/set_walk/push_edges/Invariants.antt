use Rattle.std.proofs.Common.{take}
use Rattle.graph_search.specs.Closures.{Lists}
use Rattle.set_walk.specs.inside.SetWalks.{HasState, IsNext}
use Rattle.set_walk.proofs.set_walk.push_edges.Given as goal

abbrev pub invariant-edges : goal.invariant-edges
invariant-edges g l =
    Lists HasState (IsNext (g.T.LabelTest.texts l.labels) l.automaton (take l.edge-index l.edges) l.states)
    l.fn.out.items l.out.items
