use Rattle.std.proofs.Common.{◌≡◌, false, [], take}
use Rattle.answers.specs.inside.Finding.{Finds}
use Rattle.answers.specs.inside.Showing.{ReadsSome}
use Rattle.answers.proofs.shown_rows.note_each.Given as goal

abbrev pub invariant-rows : goal.invariant-rows
invariant-rows g l = record {
  same : l.cells ≡ l.fn.cells;
  found : Finds (ReadsSome l.fn.cells (take l.row-index l.rows)) l.fn.found l.found false;
  quiet : l.rows ≡ [] → l.steps ≡ l.fn.steps;
}
