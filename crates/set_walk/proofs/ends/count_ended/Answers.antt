use Rattle.std.proofs.Common.{refl}
use Rattle.lore_base.proofs.TargetLaws.{ListsInOrder-same}
use Rattle.set_walk.specs.inside.SetWalks.{IsEnded}
use Rattle.set_walk.proofs.SetWalkLaws.{only-ended}
use Rattle.set_walk.proofs.ends.count_ended.Goals as goal

pub returns-in-Some : goal.returns-in-Some
returns-in-Some g c =
    let has = g.G.SetGraph.has c.args.graph.now in
    let met = c.args.met.now in
    let node = c.in-Some.node in
    let oids = c.members.result.now in (
      oids,
      ListsInOrder-same (has node) (IsEnded has met) oids (only-ended has met node c.in-Some.ensures) c.members.ensures,
      refl,
    )
