use Rattle.std.proofs.Common.{◌≡◌, take, filter, not}
use Rattle.oem_reach.specs.inside.Doubts.{is_listed}
use Rattle.oem_reach.proofs.oid_sets.without.Given as goal

abbrev pub invariant-oids : goal.invariant-oids
invariant-oids l = l.left ≡ filter (λ oid. not (is_listed l.fn.others oid)) (take l.oid-index l.fn.oids)
