use Rattle.std.proofs.Common.{◌++◌, [], ◌∷◌, take, get_or, sym, ◌∙◌, subst, arith}
use Rattle.std.proofs.lemmas.List.{take_more}
use Rattle.std.proofs.lemmas.List.Sums.{sum_by_more}
use Rattle.path_expr.specs.Machines.{Moving}
use Rattle.least_words.specs.Types.{Place}
use Rattle.least_words.specs.inside.Arcs.{LeadsBy, LeadsFrom, LeadsFromSome, AddsArcs, reads_at}
use Rattle.least_words.proofs.ArcLaws.{AddsArcs-then, LeadsFromSome-more}
use Rattle.least_words.proofs.arcs.push_all.Goals as goal

pub places-preserved : goal.places-preserved
places-preserved g c =
    let edges = g.A.Adjacent.edges c.args.graph.now in
    let leads = LeadsBy c.args.mover.now.labels c.args.mover.now.machine edges in
    let first : Place = record { oid = record { 0 = 0 }; states = record { 0 = 0 }; group = 0 } in
    let place : Place = get_or c.args.places.now c.places.place-index first in
    let earlier = take c.places.place-index c.args.places.now in
    let adds = subst (λ (m : Moving). AddsArcs (LeadsFrom (LeadsBy m.labels m.machine edges) place) c.places.arcs.items c.push_arcs.new.arcs.items)
    c.places.invariant.same c.in_ok-push_arcs.ensures.arcs in
    record {
      arcs = subst (λ l. AddsArcs (LeadsFromSome leads l) c.args.arcs.now.items c.push_arcs.new.arcs.items)
          (sym (take_more c.args.places.now c.places.place-index first c.places-test.true))
          (AddsArcs-then (LeadsFromSome leads earlier) (LeadsFrom leads place) (LeadsFromSome leads (earlier ++ place ∷ []))
          c.args.arcs.now.items c.places.arcs.items c.push_arcs.new.arcs.items c.places.invariant.arcs adds
          (LeadsFromSome-more leads earlier place));
      steps = omega (arith, c.in_ok-push_arcs.ensures.steps, c.places.invariant.steps, sum_by_more (reads_at edges) c.args.places.now c.places.place-index first c.places-test.true);
      same = c.push_arcs.ensures.same ∙ c.places.invariant.same;
    }
