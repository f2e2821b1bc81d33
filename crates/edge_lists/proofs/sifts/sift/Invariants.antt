use Rattle.std.proofs.Common.{take}
use Rattle.edge_lists.specs.Sifts.{AreSifted}
use Rattle.edge_lists.proofs.sifts.sift.Given as goal

abbrev pub invariant-edges : goal.invariant-edges
invariant-edges l = AreSifted l.records (take l.edge-index l.edges) l.sifted.there l.sifted.absent
