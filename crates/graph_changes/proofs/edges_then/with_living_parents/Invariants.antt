use Rattle.std.proofs.Common.{◌≡◌, ◌++◌, drop}
use Rattle.graph_changes.specs.Left.{edges_left}
use Rattle.graph_changes.proofs.edges_then.with_living_parents.Given as goal

abbrev pub invariant-edges : goal.invariant-edges
invariant-edges l = l.left ++ edges_left l.fn.dead (drop l.edge-index l.edge-items) ≡ edges_left l.fn.dead l.fn.edges
