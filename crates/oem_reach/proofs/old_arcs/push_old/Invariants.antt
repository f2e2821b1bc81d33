use Rattle.std.proofs.Common.{◌≡◌, ◌++◌, take}
use Rattle.oem_reach.specs.inside.Doubts.{old_of}
use Rattle.oem_reach.proofs.old_arcs.push_old.Given as goal

abbrev pub invariant-edges : goal.invariant-edges
invariant-edges l = l.buf ≡ l.fn.buf ++ old_of l.fn.fresh (take l.edge-index l.fn.edges)
