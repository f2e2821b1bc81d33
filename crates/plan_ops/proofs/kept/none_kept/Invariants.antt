use Rattle.std.proofs.Common.{◌-◌, ◌≤◌, length, All}
use Rattle.plan_ops.specs.inside.Keeping.{IsNothing}
use Rattle.plan_ops.proofs.kept.none_kept.Given as goal

abbrev pub invariant-steps : goal.invariant-steps
invariant-steps l = record {
  few : length l.list.items ≤ l.count;
  none : All IsNothing l.list.items;
}

abbrev pub decreases-steps : goal.decreases-steps
decreases-steps l = l.count - length l.list.items
