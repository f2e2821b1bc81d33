use Rattle.std.proofs.Common.{◌≡◌, drop}
use Rattle.updates.specs.inside.RowTests.{any_atomic}
use Rattle.updates.proofs.row_tests.any_atomic.Given as goal

abbrev pub invariant-rows : goal.invariant-rows
invariant-rows l = any_atomic l.graph.graph.objects (drop l.target-index l.rows) ≡ any_atomic l.graph.graph.objects l.rows
