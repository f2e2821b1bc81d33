use Rattle.std.proofs.Common.{◌≡◌, take}
use Rattle.oem_reach.specs.inside.Doubts.{inner_of}
use Rattle.oem_reach.proofs.doubts.inner_edges.Given as goal

abbrev pub invariant-edges : goal.invariant-edges
invariant-edges l = l.inner ≡ inner_of l.fn.oids (take l.edge-index l.fn.edges)
