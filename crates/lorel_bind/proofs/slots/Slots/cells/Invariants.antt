use Rattle.std.proofs.Common.{take}
use Rattle.std.specs.List.{AllZip}
use Rattle.lorel_ranges.specs.Views.{shown_tree, ranges_of}
use Rattle.lorel_bind.specs.inside.Slots.{BindsCell}
use Rattle.lorel_bind.proofs.slots.Slots.cells.Given as goal

abbrev pub invariant-cells : goal.invariant-cells
invariant-cells l =
    AllZip (λ cell bound. BindsCell l.self.names.now (ranges_of l.self.fused.items) (shown_tree cell) bound) (take l.cell-index l.shown) l.cells
