use Rattle.std.proofs.Common.{take}
use Rattle.block_haste.specs.inside.Hastening.{AreChangesIn}
use Rattle.block_haste.proofs.moving.changes_in.Given as goal

abbrev pub invariant-moves : goal.invariant-moves
invariant-moves l = AreChangesIn l.numbers (take l.step-index l.moves) l.changes.items
