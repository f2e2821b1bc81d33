use Rattle.std.proofs.Common.{◌↔◌, List, subst}
use Rattle.std.proofs.lemmas.Result.{IfOk-weaker}
use Rattle.lore_base.specs.Paths.{path_tree}
use Rattle.graph_search.specs.Closures.{IsClosure}
use Rattle.set_walk.specs.Types.{Oid, States}
use Rattle.set_walk.specs.SetPaths.{IsReachedBySets}
use Rattle.set_walk.specs.inside.SetWalks.{HasState, Leads, AreStarts, IsEnded}
use Rattle.set_walk.proofs.SetWalkLaws.{ended-reached}
use Rattle.set_walk.proofs.set_walk.nodes_met.Goals as goal

pub returns : goal.returns
returns g c =
    let goes = g.G.SetGraph.goes c.args.graph.now in
    let has = g.G.SetGraph.has c.args.graph.now in
    let labels = g.T.LabelTest.texts c.args.labels.now in
    let machine = c.in_ok-automaton.automaton in
    let path = path_tree c.args.path.now in
    let start = c.args.start in
    let starts = c.in_ok-starts.starts.items in
    let begin =
    subst (λ (s : States). AreStarts start s starts) c.starts.ensures.exact c.in_ok-starts.ensures in
    IfOk-weaker c.search.result
    (λ met. IsClosure HasState (Leads goes labels machine) c.as_slice.result.now met.items)
    (λ met. (oid : Oid) → IsEnded has met.items oid ↔ IsReachedBySets labels goes has path start oid)
    (λ met found. ended-reached goes labels machine has path start starts met.items c.in_ok-automaton.ensures begin
    (subst (λ l. IsClosure HasState (Leads goes labels machine) l met.items) c.as_slice.ensures.value found))
    c.search.ensures.found
