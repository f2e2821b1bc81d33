use Rattle.std.proofs.lemmas.Result.{on_ok_weaker}
use Rattle.set_walk.proofs.SetWalkLaws.{next-all}
use Rattle.set_walk.proofs.set_walk.SetWalkSpaceUnit.push_next.Goals as goal

pub returns-clause-next : goal.returns-clause-next
returns-clause-next g c =
    let self = c.args.self.now in
    on_ok_weaker c.push_edges.result
    (λ lists. next-all (g.T.LabelTest.texts self.labels.now) self.automaton.now (c.args.place.1).0
    (g.G.SetGraph.goes self.graph.now) c.args.place.0 c.edges-edges.result.now c.args.out.now.items
    c.push_edges.new.out.items c.edges-edges.ensures lists)
    c.push_edges.ensures
