use Rattle.std.proofs.Common.{◌≡◌, ◌<◌, ℕ, Some, true, length, map, take, slice_get, subst, arith}
use Rattle.plan_ops.specs.Types.{RANGES}
use Rattle.plan_ops.specs.inside.Ready.{ready_tree}
use Rattle.plan_ops.specs.inside.Narrowing.{IsFilledBy}
use Rattle.row_hints.proofs.ToldLaws.{none_known}
use Rattle.plan_ops.proofs.KnownSlotLaws.{known_more}
use Rattle.plan_ops.proofs.known_slots.slots_before.Goals as goal

pub steps-init : goal.steps-init
steps-init c = λ slot mark. absurd (none_known RANGES slot mark)

pub steps-preserved : goal.steps-preserved
steps-preserved c =
    let within : c.steps.place < length c.args.ready.now = omega arith in
    λ slot mark. known_more c.args.ready.now c.steps.place slot c.index-ready-place.result c.slot.result (slice_get c.steps.known slot ≡ Some true)
    within c.index-ready-place.is c.slot.ensures (c.steps.invariant slot) (c.mark.ensures slot mark)

pub returns : goal.returns
returns c =
    let past : c.steps.place ≡ c.args.at = omega arith in
    λ slot mark. subst (λ (n : ℕ). IsFilledBy (take n (map ready_tree c.args.ready.now)) slot) past (c.steps.invariant slot mark)
