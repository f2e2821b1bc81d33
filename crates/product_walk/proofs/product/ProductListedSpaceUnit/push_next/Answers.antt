use Rattle.std.proofs.Common.{sym, subst}
use Rattle.graph_search.specs.Closures.{Lists}
use Rattle.product_walk.specs.inside.Arcs.{along, AreArcs}
use Rattle.product_walk.specs.inside.Products.{IsNext}
use Rattle.product_walk.specs.inside.StateSets.{HasState}
use Rattle.product_walk.proofs.ArcLaws.{arcs_along}
use Rattle.product_walk.proofs.ProductLaws.{leads_on-arcs}
use Rattle.product_walk.proofs.product.ProductListedSpaceUnit.push_next.Goals as goal

pub returns-clause-next : goal.returns-clause-next
returns-clause-next g c =
    let edges = c.args.self.now.direction.list.now in
    leads_on-arcs c.args.self.now.mover.labels c.args.self.now.mover.machine (along edges)
    (λ edge. edge.child) c.args.place.0 (c.args.place.1).0 c.list_out.new.buf c.args.out.now.items c.push_ends.new.out.items
    (subst (AreArcs (along edges) (λ edge. edge.child) c.args.place.0) (sym c.in_ok-list_out.ensures) (arcs_along edges c.args.place.0))
    (subst (λ l. Lists HasState (IsNext c.args.self.now.mover.labels c.args.self.now.mover.machine (λ edge. edge.child) l (c.args.place.1).0) c.args.out.now.items c.push_ends.new.out.items)
    c.as_slice.ensures c.in_ok-push_ends.ensures.next)
