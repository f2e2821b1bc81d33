use Rattle.std.proofs.Common.{◌++◌, subst, sym, ap, ◌∙◌}
use Rattle.lore_base.specs.Walks.{out_of}
use Rattle.product_walk.specs.inside.Arcs.{along, AreArcs}
use Rattle.product_walk.proofs.ArcLaws.{arcs_along}
use Rattle.product_walk.proofs.direction.AlongDirection.read.Goals as goal

pub returns-clause-arcs : goal.returns-clause-arcs
returns-clause-arcs g c =
    let edges = g.A.Adjacent.edges c.args.self.now.graph.now in
    subst (AreArcs (along edges) (λ edge. edge.child) c.args.oid)
    (sym (c.in_ok-out_edges.ensures.edges ∙ ap (λ l. l ++ out_of c.args.oid edges) c.requires))
    (arcs_along edges c.args.oid)
