use Rattle.std.proofs.Common.{◌≡◌, take}
use Rattle.graph_search.specs.Closures.{Lists}
use Rattle.product_walk.specs.inside.Products.{IsNext}
use Rattle.product_walk.specs.inside.StateSets.{HasState}
use Rattle.product_walk.proofs.product.push_ends.Given as goal

abbrev pub invariant-edges : goal.invariant-edges
invariant-edges g l = record {
  lists : Lists HasState (IsNext l.fn.mover.labels l.fn.mover.machine g.D.Arcs.far (take l.edge-index l.edges) l.states) l.fn.out.items l.out.items;
  same : l.mover ≡ l.fn.mover;
}
