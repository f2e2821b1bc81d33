use Rattle.block_haste.specs.inside.Listed.{AreNumbersBelow}
use Rattle.block_haste.proofs.starting.numbered.Given as goal

abbrev pub invariant-nodes : goal.invariant-nodes
invariant-nodes l = AreNumbersBelow l.node l.numbers l.pairs.items
