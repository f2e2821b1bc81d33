use Rattle.std.proofs.Common.{List, ℕ, ◌+◌, ◌++◌, get_or, drop, ap}
use Rattle.std.specs.Prelude.{codes}
use Rattle.std.specs.List.{flat_map}
use Rattle.reply_texts.specs.Types.{Cell}
use Rattle.reply_texts.specs.Texts.{cell_text}
use Rattle.lore_base.proofs.PutLaws.{Breaks-early, Breaks-late, Breaks-same, Puts-broken, Takes-same, Takes-then}
use Rattle.oem_atom.proofs.RunLaws.{printed_around, printed_next}
use Rattle.reply_texts.proofs.texts.put_other_cells.Goals as goal

pub returns-in_err-put : goal.returns-in_err-put
returns-in_err-put g c =
    let text = cell_text c.args.labels.now (g.V.ValueOf.objects c.args.values.now) in
    let each : Cell → List ℕ = λ other. codes " | " ++ text other in
    let parts = printed_around each c.args.cells.now c.cells.cell-index c.cell-item.result c.cells-test.true in
    Puts-broken g.O.Out.is_memory c.from_residual.result c.from_residual.ensures.1
    (Breaks-same parts (Breaks-early (flat_map each (drop (c.cells.cell-index + 1) c.args.cells.now))
    (Breaks-late c.cells.invariant
    (Breaks-early (text (get_or c.args.cells.now c.cells.cell-index c.cell-item.result)) c.in_err-put.ensures))))

pub returns-in_err-put_cell : goal.returns-in_err-put_cell
returns-in_err-put_cell g c =
    let text = cell_text c.args.labels.now (g.V.ValueOf.objects c.args.values.now) in
    let each : Cell → List ℕ = λ other. codes " | " ++ text other in
    let parts = printed_around each c.args.cells.now c.cells.cell-index c.cell-item.result c.cells-test.true in
    Puts-broken g.O.Out.is_memory c.from_residual-in_err-put_cell.result c.from_residual-in_err-put_cell.ensures.1
    (Breaks-same parts (Breaks-early (flat_map each (drop (c.cells.cell-index + 1) c.args.cells.now))
    (Breaks-late c.cells.invariant (Breaks-late c.in_ok-put.ensures (Breaks-same (ap text c.cell-item.is) c.in_err-put_cell.ensures)))))

pub cells-preserved : goal.cells-preserved
cells-preserved g c =
    let text = cell_text c.args.labels.now (g.V.ValueOf.objects c.args.values.now) in
    let each : Cell → List ℕ = λ other. codes " | " ++ text other in
    let parts = printed_next each c.args.cells.now c.cells.cell-index c.cell-item.result c.cells-test.true in
    Takes-same parts (Takes-then c.cells.invariant
    (Takes-then c.in_ok-put.ensures (Takes-same (ap text c.cell-item.is) c.in_ok-put_cell.ensures)))
