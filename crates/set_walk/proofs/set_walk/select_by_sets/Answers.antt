use Rattle.std.proofs.Common.{◌↔◌, subst, sym}
use Rattle.std.proofs.lemmas.Result.{on_ok_weaker}
use Rattle.lore_base.specs.Paths.{path_tree}
use Rattle.lore_base.proofs.TargetLaws.{ListsInOrder-same}
use Rattle.set_walk.specs.Types.{Oid}
use Rattle.set_walk.specs.SetPaths.{IsReachedBySets}
use Rattle.set_walk.specs.inside.SetWalks.{IsEnded}
use Rattle.set_walk.proofs.set_walk.select_by_sets.Goals as goal

pub returns-clause-objects : goal.returns-clause-objects
returns-clause-objects g c =
    let goes = g.G.SetGraph.goes c.args.graph.now in
    let has = g.G.SetGraph.has c.args.graph.now in
    let labels = g.T.LabelTest.texts c.args.labels.now in
    let path = path_tree c.args.path.now in
    let start = c.args.start in
    let listed =
    subst (λ l. (oid : Oid) → IsEnded has l oid ↔ IsReachedBySets labels goes has path start oid)
    (sym c.as_slice.ensures.value) c.in_ok-met.ensures in
    on_ok_weaker c.append_ended.result
    (λ more. (
      more.0,
      more.1,
      ListsInOrder-same (IsEnded has c.as_slice.result.now) (IsReachedBySets labels goes has path start) more.0 listed
          more.2,
    ))
    c.append_ended.ensures.objects
