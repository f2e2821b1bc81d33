use Rattle.std.proofs.Common.{◌≡◌, map, take}
use Rattle.product_walk.specs.inside.StateSets.{marks}
use Rattle.product_walk.proofs.searches.starting_at.Given as goal

abbrev pub invariant-oids : goal.invariant-oids
invariant-oids l = l.starts.items ≡ map (λ oid. (oid, marks l.states)) (take l.oid-index l.oids)
