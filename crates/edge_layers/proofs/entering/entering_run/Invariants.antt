use Rattle.std.proofs.Common.{length}
use Rattle.edge_layers.proofs.ChainLaws.{IsRunFrom}
use Rattle.edge_layers.proofs.entering.entering_run.Given as goal

abbrev pub invariant-chain : goal.invariant-chain
invariant-chain l = IsRunFrom l.edges l.oid (length l.chains.heads.items) l.above l.run

abbrev pub decreases-chain : goal.decreases-chain
decreases-chain l = l.above
