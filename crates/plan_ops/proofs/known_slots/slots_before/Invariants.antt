use Rattle.std.proofs.Common.{◌≡◌, ℕ, Some, true, map, take, slice_get}
use Rattle.plan_ops.specs.inside.Ready.{ready_tree}
use Rattle.plan_ops.specs.inside.Narrowing.{IsFilledBy}
use Rattle.plan_ops.proofs.known_slots.slots_before.Given as goal

abbrev pub invariant-steps : goal.invariant-steps
invariant-steps l = (slot : ℕ) → slice_get l.known slot ≡ Some true → IsFilledBy (take l.place (map ready_tree l.ready)) slot
