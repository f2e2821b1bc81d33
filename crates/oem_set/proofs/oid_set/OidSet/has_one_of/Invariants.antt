use Rattle.std.proofs.Common.{All, Contains, take}
use Rattle.oem_set.proofs.oid_set.OidSet.has_one_of.Given as goal

abbrev pub invariant-oids : goal.invariant-oids
invariant-oids l = All (λ oid. ¬ Contains l.self oid) (take l.oid-index l.fn.oids)
