use Rattle.std.proofs.Common.{length}
use Rattle.base_tests.proofs.orders.+objects_ascend.Given as goal

abbrev pub decreases-objects_ascend : goal.decreases-objects_ascend
decreases-objects_ascend l = length l.values.now
