use Rattle.std.proofs.Common.{◌≡◌, map, take}
use Rattle.link_index.specs.inside.LinkEdges.{link_at}
use Rattle.link_index.proofs.link_lists.links_of.Given as goal

abbrev pub invariant-edges : goal.invariant-edges
invariant-edges l = l.links ≡ map link_at (take l.edge-index l.fn.edges)
