use Rattle.std.proofs.Common.{◌≡◌, take, All, ◌<◌, length}
use Rattle.block_haste.specs.inside.Marking.{stands, AreMarkedBy}
use Rattle.block_haste.specs.inside.Hastening.{AreTouched}
use Rattle.block_haste.proofs.marking.mark_touched.Given as goal

abbrev pub invariant-events : goal.invariant-events
invariant-events l = record {
  every : length l.marks.items ≡ length l.fn.marks.items;
  marks : AreMarkedBy (stands l.tally) (take l.event-index l.events) l.marks.items;
  touched : AreTouched l.marks.items l.touched.items;
  within : All (λ node. node < length l.fn.marks.items) l.touched.items;
}
