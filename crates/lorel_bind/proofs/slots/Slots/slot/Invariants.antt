use Rattle.std.proofs.Common.{◌≢◌, take, All}
use Rattle.lorel_ranges.specs.Views.{place_tree}
use Rattle.lorel_bind.proofs.slots.Slots.slot.Given as goal

abbrev pub invariant-fused : goal.invariant-fused
invariant-fused l = All (λ range. place_tree range.place ≢ place_tree l.place) (take l.slot l.range-items)
