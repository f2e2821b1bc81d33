use Rattle.std.proofs.Common.{◌≡◌, ◌++◌, List, sym, ap, ◌∙◌, subst}
use Rattle.std.proofs.lemmas.Result.{on_ok_weaker}
use Rattle.lore_base.specs.Walks.{out_of}
use Rattle.least_words.specs.Types.{Edge}
use Rattle.least_words.specs.inside.Arcs.{LeadsBy, LeadsFrom, IsNext, AddsArcs}
use Rattle.least_words.proofs.ArcLaws.{AddsArcs-none, AddsArcs-same, IsNext-place, leads_nowhere}
use Rattle.least_words.proofs.arcs.push_arcs.Goals as goal

pub returns-then-not-moves_on-clause-arcs : goal.returns-then-not-moves_on-clause-arcs
returns-then-not-moves_on-clause-arcs g c =
    let labels = c.args.mover.now.labels in
    let machine = c.args.mover.now.machine in
    let edges = g.A.Adjacent.edges c.args.graph.now in
    AddsArcs-none (LeadsFrom (LeadsBy labels machine edges) c.args.place) c.args.arcs.now.items
    (leads_nowhere labels machine edges c.args.place c.moves_on.ensures.sound (sym c.moves_on.ensures.test ∙ c.if-not-moves_on.true))

pub returns-clause-arcs : goal.returns-clause-arcs
returns-clause-arcs g c =
    let labels = c.args.mover.now.labels in
    let machine = c.args.mover.now.machine in
    let edges = g.A.Adjacent.edges c.args.graph.now in
    let place = c.args.place in
    let out = out_of place.oid edges in
    let listed : c.as_slice.result.now ≡ out = c.as_slice.ensures ∙ c.in_ok-out_edges.ensures.edges ∙ ap (λ (l : List Edge). l ++ out) c.cut.ensures in
    on_ok_weaker c.push_ends.result (λ adds.
    AddsArcs-same (IsNext labels machine place.states out) (LeadsFrom (LeadsBy labels machine edges) place) c.args.arcs.now.items c.push_ends.new.arcs.items
    (IsNext-place labels machine edges place) (subst (λ (l : List Edge). AddsArcs (IsNext labels machine place.states l) c.args.arcs.now.items c.push_ends.new.arcs.items) listed adds))
    c.push_ends.ensures.arcs
