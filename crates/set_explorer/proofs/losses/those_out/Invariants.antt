use Rattle.std.proofs.Common.{◌↔◌, Contains, take}
use Rattle.set_explorer.specs.Types.{Oid}
use Rattle.set_explorer.proofs.losses.those_out.Given as goal

abbrev pub invariant-oids : goal.invariant-oids
invariant-oids l =
    (oid : Oid) → Contains l.out oid ↔ (Contains (take l.oid-index l.fn.oids) oid × (Contains l.set oid → ⊥))
