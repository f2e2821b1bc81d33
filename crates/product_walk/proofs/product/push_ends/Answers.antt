use Rattle.std.proofs.Common.{[], get_or, take, refl, subst, sym, ◌∙◌}
use Rattle.std.proofs.lemmas.List.{take_more}
use Rattle.graph_search.specs.Closures.{Lists}
use Rattle.path_expr.specs.Machines.{Moving, IsStep}
use Rattle.product_walk.specs.Types.{Edge}
use Rattle.product_walk.specs.inside.Products.{IsNext}
use Rattle.product_walk.specs.inside.StateSets.{HasState}
use Rattle.product_walk.proofs.ProductLaws.{ends_none, ends_more}
use Rattle.product_walk.proofs.product.push_ends.Goals as goal

pub edges-init : goal.edges-init
edges-init g c = record {
  lists = subst (λ l. Lists HasState (IsNext c.args.mover.now.labels c.args.mover.now.machine g.D.Arcs.far [] c.args.states) c.args.out.now.items l)
      (sym c.reserve.ensures.items)
      (ends_none c.args.mover.now.labels c.args.mover.now.machine g.D.Arcs.far c.args.states c.args.out.now.items);
  same = refl;
}

pub edges-preserved : goal.edges-preserved
edges-preserved g c =
    let labels = c.args.mover.now.labels in
    let machine = c.args.mover.now.machine in
    let first : Edge = record { parent = record { 0 = 0 }; label = record { 0 = 0 }; child = record { 0 = 0 } } in
    let edge : Edge = get_or c.args.edges.now c.edges.edge-index first in
    let earlier = take c.edges.edge-index c.args.edges.now in
    let step = subst (λ (m : Moving). IsStep m.labels m.machine c.args.states edge.label c.in_ok-after.after) c.edges.invariant.same c.in_ok-after.ensures.step in
    record {
      lists = subst (λ l. Lists HasState (IsNext labels machine g.D.Arcs.far l c.args.states) c.args.out.now.items c.push_end.new.out.items)
          (sym (take_more c.args.edges.now c.edges.edge-index first c.edges-test.true))
          (ends_more labels machine g.D.Arcs.far c.args.states earlier edge c.far_end.result c.in_ok-after.after
          c.args.out.now.items c.edges.out.items c.push_end.new.out.items step c.far_end.ensures c.edges.invariant.lists c.in_ok-push_end.ensures);
      same = c.after.ensures.same ∙ c.edges.invariant.same;
    }
