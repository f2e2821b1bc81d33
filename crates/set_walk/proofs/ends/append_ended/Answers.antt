use Rattle.std.proofs.lemmas.Result.{on_ok_weaker}
use Rattle.lore_base.proofs.TargetLaws.{ListsInOrder-same}
use Rattle.set_walk.specs.inside.SetWalks.{IsEnded}
use Rattle.set_walk.proofs.SetWalkLaws.{only-ended}
use Rattle.set_walk.proofs.ends.append_ended.Goals as goal

pub returns-in-Some-clause-objects : goal.returns-in-Some-clause-objects
returns-in-Some-clause-objects g c =
    let has = g.G.SetGraph.has c.args.graph.now in
    let node = c.in-Some.node in
    on_ok_weaker c.append_members.result
    (λ more. (
      more.0,
      more.1,
      ListsInOrder-same (has node) (IsEnded has c.args.met.now) more.0
          (only-ended has c.args.met.now node c.in-Some.ensures) more.2,
    ))
    c.append_members.ensures.objects
