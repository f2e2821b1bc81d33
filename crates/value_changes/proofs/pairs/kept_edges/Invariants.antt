use Rattle.std.proofs.Common.{take}
use Rattle.value_changes.specs.inside.Pairs.{AreKept}
use Rattle.value_changes.proofs.pairs.kept_edges.Given as goal

abbrev pub invariant-edges : goal.invariant-edges
invariant-edges l = AreKept (take l.edge-index l.edges) l.lost l.kept
