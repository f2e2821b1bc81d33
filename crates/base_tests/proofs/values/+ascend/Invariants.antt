use Rattle.std.proofs.Common.{length}
use Rattle.base_tests.proofs.values.+ascend.Given as goal

abbrev pub decreases-ascend : goal.decreases-ascend
decreases-ascend l = length l.entries.now
