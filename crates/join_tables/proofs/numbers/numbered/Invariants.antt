use Rattle.std.proofs.Common.{take}
use Rattle.join_tables.specs.inside.Numbers.{AreNumbered}
use Rattle.join_tables.proofs.numbers.numbered.Given as goal

abbrev pub invariant-oids : goal.invariant-oids
invariant-oids g l = AreNumbered (g.G.ValueOf.objects l.graph) (take l.oid-index l.oids) l.found
