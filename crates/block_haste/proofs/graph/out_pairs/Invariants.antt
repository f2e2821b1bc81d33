use Rattle.block_haste.specs.inside.Listed.{ArePairsBelow}
use Rattle.block_haste.proofs.graph.out_pairs.Given as goal

abbrev pub invariant-edges : goal.invariant-edges
invariant-edges l = ArePairsBelow l.place l.edges l.pairs.items
