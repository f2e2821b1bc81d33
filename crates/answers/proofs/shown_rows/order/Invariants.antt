use Rattle.std.specs.Prelude.{IsPermutation}
use Rattle.answers.proofs.shown_rows.order.Given as goal

abbrev pub invariant-cells : goal.invariant-cells
invariant-cells g l = IsPermutation l.fn.rows.items l.rows.items
