use Rattle.std.proofs.Common.{take}
use Rattle.block_haste.specs.inside.Listed.{AreRowListed}
use Rattle.block_haste.proofs.graph.push_row.Given as goal

abbrev pub invariant-entries : goal.invariant-entries
invariant-entries l = AreRowListed l.node (take l.entry-index l.row) l.fn.edges.items l.edges.items
