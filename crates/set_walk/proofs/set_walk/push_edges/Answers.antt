use Rattle.std.proofs.Common.{◌++◌, ◌∷◌, [], take, List, subst, sym}
use Rattle.std.proofs.lemmas.List.{take_all}
use Rattle.list_laws.proofs.PartLaws.{take_more_read}
use Rattle.graph_search.specs.Closures.{Lists}
use Rattle.set_walk.specs.Types.{Label}
use Rattle.set_walk.specs.inside.SetWalks.{HasState, IsNext}
use Rattle.set_walk.proofs.SetWalkLaws.{next-none, next-more}
use Rattle.set_walk.proofs.set_walk.push_edges.Goals as goal

pub edges-init : goal.edges-init
edges-init g c =
    next-none (g.T.LabelTest.texts c.args.labels.now) c.args.automaton.now c.args.states c.args.out.now.items

pub edges-preserved : goal.edges-preserved
edges-preserved g c =
    let labels = g.T.LabelTest.texts c.args.labels.now in
    let machine = c.args.automaton.now in
    let edges = c.args.edges.now in
    let edge = c.edge-item.result in
    let old = c.args.out.now.items in
    let new = c.push_node.new.out.items in
    subst (λ l. Lists HasState (IsNext labels machine l c.args.states) old new)
    (sym (take_more_read edges c.edges.edge-index edge c.edges-test.true c.edge-item.is))
    (next-more labels machine c.args.states (take c.edges.edge-index edges) edge c.step-after.result old
    c.edges.out.items new c.step-after.ensures.exact c.edges.invariant c.in_ok-push_node.ensures)

pub returns : goal.returns
returns g c =
    subst (λ l. Lists HasState (IsNext (g.T.LabelTest.texts c.args.labels.now) c.args.automaton.now l c.args.states)
    c.args.out.now.items c.edges.out.items)
    (take_all c.edges.edge-index c.args.edges.now c.edges-test.false) c.edges.invariant
