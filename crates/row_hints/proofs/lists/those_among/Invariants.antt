use Rattle.std.proofs.Common.{take, Contains}
use Rattle.lore_base.specs.TargetSets.{ListsInOrder}
use Rattle.row_hints.proofs.lists.those_among.Given as goal

abbrev pub invariant-oids : goal.invariant-oids
invariant-oids l = ListsInOrder (λ oid. Contains (take l.oid-index l.oids) oid × Contains l.list oid) l.kept
