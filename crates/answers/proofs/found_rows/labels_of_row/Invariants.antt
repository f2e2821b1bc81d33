use Rattle.std.proofs.Common.{◌≡◌, ◌+◌, ◌-◌, ◌^◌, ◌<◌, min, drop}
use Rattle.lorel_bound.specs.Answers.{row_labels}
use Rattle.answers.proofs.found_rows.labels_of_row.Given as goal

abbrev pub invariant-cells : goal.invariant-cells
invariant-cells l = record {
  so_far : min (2 ^ 64 - 1) (l.count + row_labels (drop l.cell-index l.cells)) ≡ min (2 ^ 64 - 1) (row_labels l.cells);
  fits : l.count < 2 ^ 64;
}
