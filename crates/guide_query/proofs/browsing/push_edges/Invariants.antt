use Rattle.std.proofs.Common.{◌≡◌, ◌++◌, map, take}
use Rattle.guide_query.specs.inside.PathNodes.{edge_line}
use Rattle.guide_query.proofs.browsing.push_edges.Given as goal

abbrev pub invariant-edges : goal.invariant-edges
invariant-edges l = l.lines ≡ l.fn.lines ++ map (edge_line l.guide l.labels) (take l.edge-index l.row)
