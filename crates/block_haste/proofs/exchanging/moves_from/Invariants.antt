use Rattle.std.proofs.Common.{take}
use Rattle.block_haste.proofs.ExchangeLaws.{AreMovesFrom}
use Rattle.block_haste.proofs.exchanging.moves_from.Given as goal

abbrev pub invariant-nodes : goal.invariant-nodes
invariant-nodes l = AreMovesFrom l.numbers l.from l.to (take l.node-index l.list) l.moves.items
