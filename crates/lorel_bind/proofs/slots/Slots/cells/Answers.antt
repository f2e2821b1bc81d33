use Rattle.std.proofs.Common.{refl}
use Rattle.list_laws.proofs.ZipLaws.{AllZip-map}
use Rattle.lorel_ranges.specs.Views.{shown_tree, ranges_of}
use Rattle.lorel_bind.specs.inside.Slots.{BindsCell}
use Rattle.lorel_bind.proofs.SlotLaws.{pairs_read, all_pairs_read}
use Rattle.lorel_bind.proofs.slots.Slots.cells.Goals as goal

pub cells-preserved : goal.cells-preserved
cells-preserved c =
    rw c.in_ok-push.ensures.ok
    (pairs_read (λ cell bound. BindsCell c.args.self.now.names.now (ranges_of c.args.self.now.fused.items) (shown_tree cell) bound)
    c.args.shown.now c.cells.cells c.cells.cell-index c.cell-item.result c.cell.result
    c.cells-test.true c.cell-item.is c.cells.invariant c.cell.ensures)

pub returns : goal.returns
returns c =
    AllZip-map (BindsCell c.args.self.now.names.now (ranges_of c.args.self.now.fused.items)) shown_tree c.args.shown.now c.cells.cells
    (all_pairs_read (λ cell bound. BindsCell c.args.self.now.names.now (ranges_of c.args.self.now.fused.items) (shown_tree cell) bound)
    c.args.shown.now c.args.shown.now c.cells.cells c.cells.cell-index refl c.cells-test.false c.cells.invariant)
