use Rattle.std.proofs.Common.{◌≡◌, ◌↔◌, ◌∷◌, [], subst, sym, ap, ◌∙◌}
use Rattle.lore_base.specs.Paths.{path_tree, Reaches}
use Rattle.graph_search.specs.Closures.{IsMet, IsClosure}
use Rattle.path_expr.specs.Machines.{Machine}
use Rattle.product_walk.specs.Types.{Oid, END}
use Rattle.product_walk.specs.ProductWalks.{PathsOver}
use Rattle.product_walk.specs.inside.Arcs.{along}
use Rattle.product_walk.specs.inside.Products.{Leads}
use Rattle.product_walk.specs.inside.StateSets.{HasState, marks}
use Rattle.product_walk.proofs.PathLaws.{accepted_reaches}
use Rattle.product_walk.proofs.ProductLaws.{found_from, lists_same, ends_along}
use Rattle.product_walk.proofs.naive_paths.NaivePathsPaths.select.Goals as goal

pub returns-clause-objects : goal.returns-clause-objects
returns-clause-objects g c =
    let edges = c.self.inside.edges.now in
    let labels = g.T.LabelTest.texts c.self.inside.labels.now in
    let machine = c.in_ok-automaton.automaton in
    let path = path_tree c.args.path.now in
    let from = c.args.named in
    let met = c.in_ok-met.met.items in
    let at_start : c.as_slice.result.now ≡ (from, marks machine.start) ∷ [] = c.as_slice.ensures ∙ ap (λ s. (from, marks s) ∷ []) c.starts.ensures.exact in
    let over = subst (λ l. IsClosure HasState (Leads l c.new.result.machine (along edges)) c.as_slice.result.now met) c.new.ensures.labels c.in_ok-met.ensures.found in
    let run = subst (λ (m : Machine). IsClosure HasState (Leads labels m (along edges)) c.as_slice.result.now met) c.new.ensures.machine over in
    let closure = subst (λ s. IsClosure HasState (Leads labels machine (along edges)) s met) at_start run in
    let same : (oid : Oid) → IsMet HasState c.as_slice-2.result.now (oid, END) ↔ Reaches labels edges path from oid =
    λ oid. subst (λ l. IsMet HasState l (oid, END) ↔ Reaches labels edges path from oid) (sym c.as_slice-2.ensures.value) (
    let found = found_from labels machine (along edges) (from ∷ []) met closure (oid, END) in
    let ends = ends_along edges labels machine from oid in
    let reaches = accepted_reaches labels edges machine path c.in_ok-automaton.ensures from oid in
    (λ h. reaches.0 (ends.0 (found.0 h)), λ h. found.1 (ends.1 (reaches.1 h)))) in
    let over_self : (oid : Oid) → IsMet HasState c.as_slice-2.result.now (oid, END) ↔ Reaches c.args.self.now.labels c.args.self.now.edges path from oid =
    subst (λ (p : PathsOver). (oid : Oid) → IsMet HasState c.as_slice-2.result.now (oid, END) ↔ Reaches p.labels p.edges path from oid) c.self.view_is same in
    lists_same c.append_ended.result (λ oid. IsMet HasState c.as_slice-2.result.now (oid, END)) (Reaches c.args.self.now.labels c.args.self.now.edges path from)
    c.args.buf.now c.append_ended.new.buf over_self c.append_ended.ensures.objects
