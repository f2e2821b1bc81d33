use Rattle.std.proofs.Common.{◌↔◌, Contains, take}
use Rattle.graph_search.specs.Closures.{IsMet}
use Rattle.product_walk.specs.Types.{Oid, END}
use Rattle.product_walk.specs.inside.StateSets.{HasState}
use Rattle.product_walk.proofs.searches.append_ended.Given as goal

abbrev pub invariant-places : goal.invariant-places
invariant-places l = (oid : Oid) → Contains l.ended oid ↔ IsMet HasState (take l.place-index l.met) (oid, END)
