use Rattle.std.proofs.Common.{All, Contains, take}
use Rattle.set_explorer.proofs.losses.are_told.Given as goal

abbrev pub invariant-row : goal.invariant-row
invariant-row l = All (λ step. All (Contains l.told) step.1) (take l.step-index l.fn.row)
