use Rattle.std.proofs.Common.{take}
use Rattle.join_tables.specs.inside.Runs.{TellFor}
use Rattle.join_tables.proofs.table.JoinTable.partners.Given as goal

abbrev pub invariant-own : goal.invariant-own
invariant-own g l = TellFor (g.G.ValueOf.objects l.graph) l.self (take l.oid-index l.own) l.oids
