use Rattle.std.proofs.Common.{◌≡◌, ◌++◌, map, take}
use Rattle.object_search.proofs.children.push_ends.Given as goal

abbrev pub invariant-edges : goal.invariant-edges
invariant-edges l = l.out.items ≡ l.fn.out.items ++ map (λ edge. (edge.child, l.met)) (take l.edge-index l.fn.edges)
