use Rattle.std.proofs.Common.{◌≡◌, ◌↔◌, ◌∷◌, [], subst, sym, ap, ◌∙◌, arith}
use Rattle.std.proofs.lemmas.Result.{on_ok_weaker}
use Rattle.graph_search.specs.Closures.{IsMet, IsClosure}
use Rattle.path_expr.specs.Machines.{Machine}
use Rattle.product_walk.specs.Types.{Oid, END}
use Rattle.product_walk.specs.ProductWalks.{IsAcceptedFrom, IsWalked, reads_out}
use Rattle.product_walk.specs.inside.Arcs.{along}
use Rattle.product_walk.specs.inside.Products.{Leads}
use Rattle.product_walk.specs.inside.StateSets.{HasState, marks}
use Rattle.product_walk.proofs.ProductLaws.{found_from, lists_same, ends_along, walked_along, takes_reads}
use Rattle.product_walk.proofs.searches.forward.Goals as goal

pub returns-clause-objects : goal.returns-clause-objects
returns-clause-objects g c =
    let edges = g.A.Adjacent.edges c.args.graph.now in
    let labels = g.T.LabelTest.texts c.args.labels.now in
    let machine = c.args.automaton.now in
    let from = c.args.from in
    let met = c.in_ok-met.met.items in
    let at_start : c.as_slice.result.now ≡ (from, marks machine.start) ∷ [] = c.as_slice.ensures ∙ ap (λ s. (from, marks s) ∷ []) c.starts.ensures.exact in
    let over = subst (λ l. IsClosure HasState (Leads l c.new.result.machine (along edges)) c.as_slice.result.now met) c.new.ensures.labels c.in_ok-met.ensures.found in
    let run = subst (λ (m : Machine). IsClosure HasState (Leads labels m (along edges)) c.as_slice.result.now met) c.new.ensures.machine over in
    let closure = subst (λ s. IsClosure HasState (Leads labels machine (along edges)) s met) at_start run in
    let same : (oid : Oid) → IsMet HasState c.as_slice-2.result.now (oid, END) ↔ IsAcceptedFrom labels edges machine from oid =
    λ oid. subst (λ l. IsMet HasState l (oid, END) ↔ IsAcceptedFrom labels edges machine from oid) (sym c.as_slice-2.ensures.value) (
    let found = found_from labels machine (along edges) (from ∷ []) met closure (oid, END) in
    let ends = ends_along edges labels machine from oid in
    (λ h. ends.0 (found.0 h), λ h. found.1 (ends.1 h))) in
    lists_same c.append_ended.result (λ oid. IsMet HasState c.as_slice-2.result.now (oid, END)) (IsAcceptedFrom labels edges machine from)
    c.args.buf.now c.append_ended.new.buf same c.append_ended.ensures.objects

pub returns-clause-steps : goal.returns-clause-steps
returns-clause-steps g c =
    let edges = g.A.Adjacent.edges c.args.graph.now in
    let labels = g.T.LabelTest.texts c.args.labels.now in
    let machine = c.args.automaton.now in
    let from = c.args.from in
    let met = c.in_ok-met.met.items in
    let at_start : c.as_slice.result.now ≡ (from, marks machine.start) ∷ [] = c.as_slice.ensures ∙ ap (λ s. (from, marks s) ∷ []) c.starts.ensures.exact in
    let over = subst (λ l. IsClosure HasState (Leads l c.new.result.machine (along edges)) c.as_slice.result.now met) c.new.ensures.labels c.in_ok-met.ensures.found in
    let run = subst (λ (m : Machine). IsClosure HasState (Leads labels m (along edges)) c.as_slice.result.now met) c.new.ensures.machine over in
    let closure = subst (λ s. IsClosure HasState (Leads labels machine (along edges)) s met) at_start run in
    on_ok_weaker c.append_ended.result
    (λ _. takes_reads (reads_out edges) (reads_out edges) (IsWalked edges from) met (Leads labels machine (along edges)) ((from, marks machine.start) ∷ [])
    c.args.steps.now c.search.new.steps (λ oid. omega arith) closure
    (λ there h. walked_along edges labels machine from there ((found_from labels machine (along edges) (from ∷ []) met closure there).0 h))
    c.in_ok-met.ensures.steps)
    c.append_ended.ensures.objects
