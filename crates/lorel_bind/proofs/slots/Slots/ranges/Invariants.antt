use Rattle.std.proofs.Common.{take}
use Rattle.std.specs.List.{AllZip}
use Rattle.lorel_bound.specs.Bound.{range_tree}
use Rattle.lorel_ranges.specs.Views.{range_of, ranges_of}
use Rattle.lorel_bind.specs.inside.Slots.{BindsRange}
use Rattle.lorel_bind.proofs.slots.Slots.ranges.Given as goal

abbrev pub invariant-fused : goal.invariant-fused
invariant-fused l =
    AllZip (λ range bound. BindsRange l.self.names.now (ranges_of l.self.fused.items) (range_of range) (range_tree bound))
    (take l.range-index l.range-items) l.ranges
