use Rattle.std.proofs.Common.{sym, subst, ◌∙◌}
use Rattle.graph_search.specs.Closures.{Lists}
use Rattle.product_walk.specs.inside.Products.{IsNext}
use Rattle.product_walk.specs.inside.StateSets.{HasState}
use Rattle.product_walk.proofs.ProductLaws.{leads_on-arcs, leads_on-end}
use Rattle.product_walk.proofs.product.ProductSpaceSteps.push_next.Goals as goal

pub returns-then-not-moves_on-clause-next : goal.returns-then-not-moves_on-clause-next
returns-then-not-moves_on-clause-next g c =
    leads_on-end c.args.self.now.mover.labels c.args.self.now.mover.machine (g.D.Arcs.goes (g.D.Arcs.edges c.args.self.now.direction))
    c.args.place.0 (c.args.place.1).0 c.args.out.now.items c.moves_on.ensures.sound (sym c.moves_on.ensures.test ∙ c.if-not-moves_on.true)

pub returns-clause-next : goal.returns-clause-next
returns-clause-next g c =
    leads_on-arcs c.args.self.now.mover.labels c.args.self.now.mover.machine (g.D.Arcs.goes (g.D.Arcs.edges c.args.self.now.direction))
    g.D.Arcs.far c.args.place.0 (c.args.place.1).0 c.read.new.buf c.args.out.now.items c.push_ends.new.out.items c.in_ok-read.ensures.arcs
    (subst (λ edges. Lists HasState (IsNext c.args.self.now.mover.labels c.args.self.now.mover.machine g.D.Arcs.far edges (c.args.place.1).0) c.args.out.now.items c.push_ends.new.out.items)
    c.as_slice.ensures c.in_ok-push_ends.ensures.next)
