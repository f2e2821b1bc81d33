use Rattle.std.proofs.Common.{◌≡◌, ◌++◌, drop}
use Rattle.lorel_bound.proofs.answers.AnswerRowTryCopy.try_copy.Given as goal

abbrev pub invariant-cells : goal.invariant-cells
invariant-cells l = l.copy ++ drop l.cell-index l.cell-items ≡ l.fn.self
