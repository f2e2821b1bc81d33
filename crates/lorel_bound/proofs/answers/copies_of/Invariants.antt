use Rattle.std.proofs.Common.{◌≡◌, ◌++◌, drop}
use Rattle.lorel_bound.proofs.answers.copies_of.Given as goal

abbrev pub invariant-rows : goal.invariant-rows
invariant-rows l = l.copies.items ++ drop l.row-index l.rows ≡ l.rows
