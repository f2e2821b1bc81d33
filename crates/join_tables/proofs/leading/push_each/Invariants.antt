use Rattle.std.proofs.Common.{◌≡◌, ◌++◌, map, take}
use Rattle.join_tables.specs.inside.Leading.{parent_of}
use Rattle.join_tables.proofs.leading.push_each.Given as goal

abbrev pub invariant-edges : goal.invariant-edges
invariant-edges l = l.found ≡ l.fn.found ++ map (parent_of l.number) (take l.edge-index l.edges)
