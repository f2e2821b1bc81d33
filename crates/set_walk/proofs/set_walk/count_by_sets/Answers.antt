use Rattle.std.proofs.Common.{◌↔◌, subst, sym}
use Rattle.std.proofs.lemmas.Result.{IfOk-weaker}
use Rattle.lore_base.specs.Paths.{path_tree}
use Rattle.set_walk.specs.Types.{Oid}
use Rattle.index_traits.specs.Counts.{IsCount}
use Rattle.set_walk.specs.SetPaths.{IsReachedBySets}
use Rattle.set_walk.specs.inside.SetWalks.{IsEnded}
use Rattle.set_walk.proofs.SetWalkLaws.{count-same}
use Rattle.set_walk.proofs.set_walk.count_by_sets.Goals as goal

pub returns : goal.returns
returns g c =
    let goes = g.G.SetGraph.goes c.args.graph.now in
    let has = g.G.SetGraph.has c.args.graph.now in
    let reached =
    IsReachedBySets (g.T.LabelTest.texts c.args.labels.now) goes has (path_tree c.args.path.now) c.args.start in
    let listed =
    subst (λ l. (oid : Oid) → IsEnded has l oid ↔ reached oid) (sym c.as_slice.ensures.value) c.in_ok-met.ensures in
    IfOk-weaker c.count_ended.result (IsCount (IsEnded has c.as_slice.result.now)) (IsCount reached)
    (count-same (IsEnded has c.as_slice.result.now) reached listed) c.count_ended.ensures
