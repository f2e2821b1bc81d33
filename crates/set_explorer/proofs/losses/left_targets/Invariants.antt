use Rattle.std.proofs.Common.{take}
use Rattle.set_explorer.proofs.LossLaws.{AreLeftOf}
use Rattle.set_explorer.proofs.losses.left_targets.Given as goal

abbrev pub invariant-labels : goal.invariant-labels
invariant-labels l = AreLeftOf l.kept l.edges l.rest l.come (take l.label-index l.label-items) l.targets.items
