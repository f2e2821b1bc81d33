use Rattle.std.proofs.Common.{◌≡◌, ◌↔◌, map, subst, sym, ap, ◌∙◌}
use Rattle.std.proofs.lemmas.Result.{on_ok_weaker}
use Rattle.graph_search.specs.Closures.{IsMet, IsClosure}
use Rattle.path_expr.specs.Machines.{Machine}
use Rattle.product_walk.specs.Types.{Oid, States, END}
use Rattle.product_walk.specs.ProductWalks.{WalksInto, reads_in}
use Rattle.product_walk.specs.inside.Arcs.{against, reads_entering}
use Rattle.product_walk.specs.inside.Products.{Leads, ReadsTurned, ReadsInto}
use Rattle.product_walk.specs.inside.StateSets.{HasState, marks}
use Rattle.product_walk.proofs.ArcLaws.{few_entering}
use Rattle.product_walk.proofs.ProductLaws.{found_from, lists_same, ends_against, walked_against, takes_reads}
use Rattle.product_walk.proofs.searches.turned_back.Goals as goal

pub returns-clause-objects : goal.returns-clause-objects
returns-clause-objects g c =
    let edges = g.K.Links.edges c.args.links.now in
    let labels = g.T.LabelTest.texts c.args.labels.now in
    let turned = c.args.turned.now in
    let to = c.args.to.now in
    let met = c.in_ok-met.met.items in
    let at_start : c.as_slice-2.result.now ≡ map (λ oid. (oid, marks turned.start)) to =
    c.as_slice-2.ensures.value ∙ c.in_ok-starts.ensures ∙ ap (map (λ oid. (oid, marks c.starts.result))) c.as_slice.ensures
    ∙ ap (λ (s : States). map (λ oid. (oid, marks s)) to) c.starts.ensures.exact in
    let over = subst (λ l. IsClosure HasState (Leads l c.new.result.machine (against edges)) c.as_slice-2.result.now met) c.new.ensures.labels c.in_ok-met.ensures.found in
    let run = subst (λ (m : Machine). IsClosure HasState (Leads labels m (against edges)) c.as_slice-2.result.now met) c.new.ensures.machine over in
    let closure = subst (λ s. IsClosure HasState (Leads labels turned (against edges)) s met) at_start run in
    let same : (oid : Oid) → IsMet HasState c.as_slice-3.result.now (oid, END) ↔ ReadsInto edges (ReadsTurned labels turned) to oid =
    λ oid. subst (λ l. IsMet HasState l (oid, END) ↔ ReadsInto edges (ReadsTurned labels turned) to oid) (sym c.as_slice-3.ensures.value) (
    let found = found_from labels turned (against edges) to met closure (oid, END) in
    let ends = ends_against edges labels turned to oid in
    (λ h. ends.0 (found.0 h), λ h. found.1 (ends.1 h))) in
    lists_same c.append_ended.result (λ oid. IsMet HasState c.as_slice-3.result.now (oid, END)) (ReadsInto edges (ReadsTurned labels turned) to)
    c.args.buf.now c.append_ended.new.buf same c.append_ended.ensures.objects

pub returns-clause-steps : goal.returns-clause-steps
returns-clause-steps g c =
    let edges = g.K.Links.edges c.args.links.now in
    let labels = g.T.LabelTest.texts c.args.labels.now in
    let turned = c.args.turned.now in
    let to = c.args.to.now in
    let met = c.in_ok-met.met.items in
    let at_start : c.as_slice-2.result.now ≡ map (λ oid. (oid, marks turned.start)) to =
    c.as_slice-2.ensures.value ∙ c.in_ok-starts.ensures ∙ ap (map (λ oid. (oid, marks c.starts.result))) c.as_slice.ensures
    ∙ ap (λ (s : States). map (λ oid. (oid, marks s)) to) c.starts.ensures.exact in
    let over = subst (λ l. IsClosure HasState (Leads l c.new.result.machine (against edges)) c.as_slice-2.result.now met) c.new.ensures.labels c.in_ok-met.ensures.found in
    let run = subst (λ (m : Machine). IsClosure HasState (Leads labels m (against edges)) c.as_slice-2.result.now met) c.new.ensures.machine over in
    let closure = subst (λ s. IsClosure HasState (Leads labels turned (against edges)) s met) at_start run in
    on_ok_weaker c.append_ended.result
    (λ _. takes_reads (reads_entering edges) (reads_in edges) (WalksInto edges to) met (Leads labels turned (against edges)) (map (λ oid. (oid, marks turned.start)) to)
    c.args.steps.now c.search.new.steps (few_entering edges) closure
    (λ there h. walked_against edges labels turned to there ((found_from labels turned (against edges) to met closure there).0 h))
    c.in_ok-met.ensures.steps)
    c.append_ended.ensures.objects
