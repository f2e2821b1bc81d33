use Rattle.std.proofs.Common.{◌≡◌, take, length}
use Rattle.block_haste.specs.inside.Hastening.{AreWritten}
use Rattle.block_haste.proofs.moving.apply.Given as goal

abbrev pub invariant-moves : goal.invariant-moves
invariant-moves l = record {
  written : AreWritten (take l.step-index l.moves) l.fn.numbers.items l.numbers.items;
  every : length l.numbers.items ≡ length l.fn.numbers.items;
}
