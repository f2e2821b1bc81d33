use Rattle.lorel_bound.specs.Bound.{range_tree}
use Rattle.lorel_ranges.specs.Views.{range_of, ranges_of}
use Rattle.lorel_bind.specs.inside.Slots.{BindsRange}
use Rattle.lorel_bind.proofs.SlotLaws.{pairs_read, all_pairs_read, pairs_made}
use Rattle.lorel_bind.proofs.slots.Slots.ranges.Goals as goal

pub fused-preserved : goal.fused-preserved
fused-preserved c =
    rw c.in_ok-push.ensures.ok
    (pairs_read (λ range bound. BindsRange c.args.self.now.names.now (ranges_of c.args.self.now.fused.items) (range_of range) (range_tree bound))
    c.deref-range-items.result.now c.fused.ranges c.fused.range-index c.range-item.result c.in_ok-range.field-0
    c.fused-test.true c.range-item.is c.fused.invariant c.in_ok-range.ensures)

pub returns : goal.returns
returns c =
    pairs_made (BindsRange c.args.self.now.names.now (ranges_of c.args.self.now.fused.items)) range_of range_tree c.args.self.now.fused.items c.fused.ranges
    (all_pairs_read (λ range bound. BindsRange c.args.self.now.names.now (ranges_of c.args.self.now.fused.items) (range_of range) (range_tree bound))
    c.args.self.now.fused.items c.deref-range-items.result.now c.fused.ranges c.fused.range-index
    c.deref-range-items.ensures.value c.fused-test.false c.fused.invariant)
