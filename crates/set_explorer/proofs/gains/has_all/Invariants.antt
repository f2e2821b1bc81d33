use Rattle.std.proofs.Common.{All, Contains, take}
use Rattle.set_explorer.proofs.gains.has_all.Given as goal

abbrev pub invariant-oids : goal.invariant-oids
invariant-oids l = All (Contains l.set) (take l.oid-index l.oids)
