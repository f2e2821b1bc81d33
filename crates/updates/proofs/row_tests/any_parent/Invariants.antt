use Rattle.std.proofs.Common.{◌≡◌, drop}
use Rattle.updates.specs.inside.RowTests.{any_parent}
use Rattle.updates.proofs.row_tests.any_parent.Given as goal

abbrev pub invariant-rows : goal.invariant-rows
invariant-rows l = any_parent l.graph.graph.edges (drop l.target-index l.rows) ≡ any_parent l.graph.graph.edges l.rows
