use Rattle.std.proofs.Common.{◌≤◌, ◌-◌, length}
use Rattle.value_index.proofs.bisection.reach.Given as goal

abbrev pub invariant-steps : goal.invariant-steps
invariant-steps l = 1 ≤ l.place

abbrev pub decreases-steps : goal.decreases-steps
decreases-steps l = length l.entries - l.place
