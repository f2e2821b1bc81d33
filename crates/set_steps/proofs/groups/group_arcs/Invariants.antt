use Rattle.std.proofs.Common.{length}
use Rattle.set_steps.proofs.GroupLaws.{IsGrouping}
use Rattle.set_steps.proofs.groups.group_arcs.Given as goal

abbrev pub invariant-groups : goal.invariant-groups
invariant-groups l = IsGrouping l.fn.arcs l.rest l.groups.items

abbrev pub decreases-groups : goal.decreases-groups
decreases-groups l = length l.rest
