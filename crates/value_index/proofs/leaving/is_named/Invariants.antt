use Rattle.std.proofs.Common.{◌-◌, length}
use Rattle.value_index.proofs.NameLaws.{IsPassed}
use Rattle.value_index.proofs.leaving.is_named.Given as goal

abbrev pub invariant-labels : goal.invariant-labels
invariant-labels l = IsPassed l.entries l.object l.start

abbrev pub decreases-labels : goal.decreases-labels
decreases-labels l = length l.entries - l.start
