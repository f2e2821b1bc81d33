use Rattle.std.proofs.Common.{[], ◌∷◌, ◌++◌, take, get_or, refl, sym, ◌∙◌, subst}
use Rattle.std.proofs.lemmas.List.{take_more}
use Rattle.path_expr.specs.Machines.{Moving, IsStep}
use Rattle.least_words.specs.Types.{Edge, Arc}
use Rattle.least_words.specs.inside.Arcs.{IsArcTo, IsNext, AddsArcs}
use Rattle.least_words.proofs.ArcLaws.{AddsArcs-then, IsNext-more}
use Rattle.least_words.proofs.arcs.push_ends.Goals as goal

pub edges-preserved : goal.edges-preserved
edges-preserved g c =
    let labels = c.args.mover.now.labels in
    let machine = c.args.mover.now.machine in
    let first : Edge = record { parent = record { 0 = 0 }; label = record { 0 = 0 }; child = record { 0 = 0 } } in
    let edge : Edge = get_or c.args.edges.now c.edges.edge-index first in
    let earlier = take c.edges.edge-index c.args.edges.now in
    let arc : Arc = record { label = edge.label; oid = edge.child; states = c.in_ok-after.after } in
    let step = subst (λ (m : Moving). IsStep m.labels m.machine c.args.states edge.label c.in_ok-after.after) c.edges.invariant.same c.in_ok-after.ensures.step in
    record {
      arcs = subst (λ l. AddsArcs (IsNext labels machine c.args.states l) c.args.arcs.now.items c.push_arc.new.arcs.items)
          (sym (take_more c.args.edges.now c.edges.edge-index first c.edges-test.true))
          (AddsArcs-then (IsNext labels machine c.args.states earlier) (IsArcTo arc) (λ label there. IsNext labels machine c.args.states (earlier ++ edge ∷ []) label there)
          c.args.arcs.now.items c.edges.arcs.items c.push_arc.new.arcs.items c.edges.invariant.arcs c.in_ok-push_arc.ensures
          (IsNext-more labels machine c.args.states earlier edge arc refl refl step));
      same = c.after.ensures.same ∙ c.edges.invariant.same;
    }
