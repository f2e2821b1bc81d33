use Rattle.std.proofs.Common.{take}
use Rattle.block_haste.specs.inside.Hastening.{KeepLists, AreFiled}
use Rattle.block_haste.proofs.moving.file_all.Given as goal

abbrev pub invariant-moves : goal.invariant-moves
invariant-moves l = record {
  kept : KeepLists l.fn.lists.items l.lists.items;
  filed : AreFiled (take l.step-index l.moves) l.lists.items;
}
