use Rattle.std.proofs.Common.{◌↔◌, Contains, take}
use Rattle.set_walk.specs.Types.{Oid}
use Rattle.set_walk.specs.inside.SetWalks.{IsEnded}
use Rattle.set_walk.proofs.ends.union_of_ends.Given as goal

abbrev pub invariant-places : goal.invariant-places
invariant-places g l = (oid : Oid)
    → Contains l.ended oid ↔ IsEnded (g.G.SetGraph.has l.graph) (take l.place-index l.met) oid
