use Rattle.block_haste.specs.inside.Listed.{AreRowsBelow}
use Rattle.block_haste.proofs.graph.edges_of.Given as goal

abbrev pub invariant-rows : goal.invariant-rows
invariant-rows l = AreRowsBelow l.node l.rows l.edges.items
