use Rattle.std.proofs.Common.{◌+◌, ◌-◌, drop, length, Contains}
use Rattle.lorel_eval.specs.Types.{Oid}
use Rattle.lorel_eval.proofs.meeting.have_common.Given as goal

abbrev pub invariant-places : goal.invariant-places
invariant-places l = (oid : Oid) → Contains l.left oid → Contains l.right oid → Contains (drop l.i l.left) oid × Contains (drop l.j l.right) oid

abbrev pub decreases-places : goal.decreases-places
decreases-places l = (length l.left - l.i) + (length l.right - l.j)
