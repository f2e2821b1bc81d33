use Rattle.std.proofs.Common.{◌≡◌, Some, All, take}
use Rattle.std.specs.List.{AllZip}
use Rattle.answers.specs.inside.Showing.{IsReadyObject, Reads}
use Rattle.answers.proofs.ready_cells.read_row.Given as goal

abbrev pub invariant-cells : goal.invariant-cells
invariant-cells g l = record {
  same : l.cells ≡ l.fn.cells;
  shown : AllZip (λ cell out. Reads l.fn.row cell (Some out)) (take l.i l.fn.cells) l.shown;
  quiet : All IsReadyObject l.fn.cells → l.steps ≡ l.fn.steps;
}
