use Rattle.std.proofs.Common.{take}
use Rattle.join_tables.specs.inside.Runs.{TakesRun}
use Rattle.join_tables.proofs.table.push_front.Given as goal

abbrev pub invariant-rows : goal.invariant-rows
invariant-rows l = TakesRun (take l.row-index l.rows) l.number l.fn.oids l.oids
