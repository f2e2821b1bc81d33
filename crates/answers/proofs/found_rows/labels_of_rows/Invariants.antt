use Rattle.std.proofs.Common.{◌≡◌, ◌+◌, ◌-◌, ◌^◌, ◌<◌, min, drop}
use Rattle.std.specs.List.{sum_by}
use Rattle.lorel_bound.specs.Answers.{row_labels}
use Rattle.answers.proofs.found_rows.labels_of_rows.Given as goal

abbrev pub invariant-rows : goal.invariant-rows
invariant-rows l = record {
  so_far : min (2 ^ 64 - 1) (l.count + sum_by row_labels (drop l.row-index l.rows)) ≡ min (2 ^ 64 - 1) (sum_by row_labels l.rows);
  fits : l.count < 2 ^ 64;
}
