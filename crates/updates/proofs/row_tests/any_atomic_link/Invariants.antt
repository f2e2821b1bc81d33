use Rattle.std.proofs.Common.{◌≡◌, drop}
use Rattle.updates.specs.inside.RowTests.{any_atomic_link}
use Rattle.updates.proofs.row_tests.any_atomic_link.Given as goal

abbrev pub invariant-rows : goal.invariant-rows
invariant-rows l = any_atomic_link l.graph.graph.objects (drop l.target-index l.rows) ≡ any_atomic_link l.graph.graph.objects l.rows
