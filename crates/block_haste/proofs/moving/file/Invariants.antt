use Rattle.std.proofs.Common.{◌+◌, ◌-◌, length}
use Rattle.block_haste.specs.inside.Hastening.{KeepLists}
use Rattle.block_haste.proofs.moving.file.Given as goal

abbrev pub invariant-lists : goal.invariant-lists
invariant-lists l = KeepLists l.fn.lists.items l.lists.items

abbrev pub decreases-lists : goal.decreases-lists
decreases-lists l = l.number + 1 - length l.lists.items
