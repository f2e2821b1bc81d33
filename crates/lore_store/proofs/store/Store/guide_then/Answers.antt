use Rattle.std.proofs.Common.{List, sym, ap, subst, ◌∙◌}
use Rattle.std.proofs.lemmas.Result.{err_from_is_err_and}
use Rattle.lore_base.specs.GuideLimits.{FitsGuide}
use Rattle.lore_base.specs.ChangeSets.{FitsGraph, IsGraphAfter}
use Rattle.lore_base.specs.declared.edges.Edge.{Edge}
use Rattle.lore_base.specs.Databases.{AreAscendingEdges}
use Rattle.dataguide.specs.Changes.{TellsEntering}
use Rattle.dataguide.specs.Deltas.{IsReady}
use Rattle.dataguide.specs.Deltas as guides
use Rattle.lore_base.specs.declared.deltas.Delta.{Delta}
use Rattle.lore_base.specs.Deltas.{IsDelta}
use Rattle.set_steps.specs.SetSteps.{reads_of}
use Rattle.read_costs.specs.Spent.{IsSpent}
use Rattle.read_costs.specs.Concerned.{IsTouched}
use Rattle.read_costs.proofs.SpentLaws.{IsSpent-none}
use Rattle.dataguide.specs.Touched.{ReadsTouched, ReadsSome, parents_of}
use Rattle.dataguide.specs.Guides.{sets_of}
use Rattle.dataguide.specs.Deltas.{nodes_then}
use Rattle.oem_graph.specs.Plans.{graph_then}
use Rattle.lore_base.specs.Verdicts.{IsToldBy}
use Rattle.lore_store.specs.Faults.{refusal_of, guide_fault}
use Rattle.lore_store.specs.Stores.{RoomyDatabase, database_of, IsGuided}
use Rattle.lore_store.specs.inside.Sizes.{SetsCause, sets_order}
use Rattle.lore_store.proofs.PreparedLaws.{stays_guided, stood_before, graph_guided, fits_graph, graph_cause}
use Rattle.lore_store.proofs.SizeLaws.{told_sets}
use Rattle.lore_store.proofs.ReadLaws.{planned_spent, refused_spent}
use Rattle.lore_store.proofs.store.Store.guide_then.Goals as goal

pub returns-then-link_nothing-clause-guided : goal.returns-then-link_nothing-clause-guided
returns-then-link_nothing-clause-guided g c =
    let plan = c.args.plan.now in
    let changes = c.args.changes.now in
    let db = database_of c.self.inside.labels c.self.inside.graph.graph c.self.inside.limit c.self.inside.mode in
    subst (λ (s : RoomyDatabase). FitsGraph s.db.graph changes → IsGraphAfter s.db.graph changes (graph_then s.db.graph plan) → IsGuided (graph_then s.db.graph plan) s.guide) c.self.view_is
    (λ fits after. (stays_guided db c.self.inside.guide c.self.invariant.valid c.self.invariant.guided changes (c.link_nothing.ensures c.if-link_nothing.true)
    fits (graph_then db.graph plan) after).0) c.requires.fits c.requires.after

pub returns-then-link_nothing-clause-fits : goal.returns-then-link_nothing-clause-fits
returns-then-link_nothing-clause-fits g c =
    let plan = c.args.plan.now in
    let changes = c.args.changes.now in
    let db = database_of c.self.inside.labels c.self.inside.graph.graph c.self.inside.limit c.self.inside.mode in
    subst (λ (s : RoomyDatabase). FitsGraph s.db.graph changes → IsGraphAfter s.db.graph changes (graph_then s.db.graph plan) → FitsGuide s.db.nodes (graph_then s.db.graph plan).names (graph_then s.db.graph plan).edges) c.self.view_is
    (λ fits after. (stays_guided db c.self.inside.guide c.self.invariant.valid c.self.invariant.guided changes (c.link_nothing.ensures c.if-link_nothing.true)
    fits (graph_then db.graph plan) after).1) c.requires.fits c.requires.after

pub returns-clause-fits : goal.returns-clause-fits
returns-clause-fits g c =
    let plan = c.args.plan.now in
    let after = graph_then c.self.inside.graph.graph plan in
    subst (λ (s : RoomyDatabase). FitsGuide s.db.nodes (graph_then s.db.graph plan).names (graph_then s.db.graph plan).edges) c.self.view_is
    (fits_graph c.names-names.result.now c.then-then.result.edges after c.names-names.ensures c.then-then.ensures.edges c.self.inside.limit c.in_ok-guide.ensures.fits)

pub returns-in_err-guide-clause-err : goal.returns-in_err-guide-clause-err
returns-in_err-guide-clause-err g c =
    let plan = c.args.plan.now in
    let after = graph_then c.self.inside.graph.graph plan in
    let limit = c.self.inside.limit in
    let error = c.in_err-guide.field-0.0 in
    let answered = err_from_is_err_and c.from_residual.result c.from_residual.ensures.1 in
    let cause = graph_cause c.names-names.result.now c.then-then.result.edges after c.names-names.ensures c.then-then.ensures.edges limit error c.in_err-guide.ensures.cause in
    rw (answered.1, answered.2)
    (subst (λ (s : RoomyDatabase). IsToldBy (SetsCause s.db.nodes (graph_then s.db.graph plan)) sets_order (refusal_of (guide_fault error))) c.self.view_is
    (told_sets limit after error cause))

pub plan-requires : goal.plan-requires
plan-requires g c =
    let plan = c.args.plan.now in
    let graph = c.self.inside.graph.graph in
    let differ = subst (λ (s : RoomyDatabase). IsDelta s.db.graph (graph_then s.db.graph plan) plan.delta) (sym c.self.view_is) c.requires.delta in
    let before = stood_before graph (graph_then graph plan) c.self.inside.guide c.self.invariant.guided plan.delta differ
    c.then-then.result.edges c.as_slice-lost.result.now c.as_slice-fresh.result.now c.then-then.ensures.edges
    (c.as_slice-lost.ensures ∙ ap (λ (d : Delta). d.edges_gone) c.delta-delta.ensures) (c.as_slice-fresh.ensures ∙ ap (λ (d : Delta). d.edges_come) c.delta-delta.ensures) in
    let gone = c.as_slice-lost.ensures ∙ ap (λ (d : Delta). d.edges_gone) c.delta-delta.ensures in
    let tells = subst (λ (s : RoomyDatabase). TellsEntering (graph_then s.db.graph plan).edges c.args.cut.now.oids c.args.cut.now.edges)
    (sym c.self.view_is) c.requires.tells in
    record {
      stood = before.0;
      ascend = before.1;
      lost_ascend = subst AreAscendingEdges (sym gone) differ.edges_ascend.0;
      tells = subst (λ (l : List Edge). TellsEntering c.then-then.result.edges c.args.cut.now.oids l) (sym c.as_slice-edges.ensures)
          (subst (λ (l : List Edge). TellsEntering l c.args.cut.now.oids c.args.cut.now.edges) (sym c.then-then.ensures.edges) tells);
    }

pub returns-clause-guided : goal.returns-clause-guided
returns-clause-guided g c =
    let plan = c.args.plan.now in
    let delta = c.in_ok-guide.guide in
    subst (λ (s : RoomyDatabase). IsGuided (graph_then s.db.graph plan) (guides.guide_then s.guide.nodes delta)) c.self.view_is
    (graph_guided c.names-names.result.now c.then-then.result.edges (graph_then c.self.inside.graph.graph plan) c.names-names.ensures c.then-then.ensures.edges
    (guides.guide_then c.self.inside.guide.nodes delta) c.in_ok-guide.ensures.guide c.in_ok-guide.ensures.order)

pub returns-clause-ready : goal.returns-clause-ready
returns-clause-ready g c =
    subst (λ (s : RoomyDatabase). IsReady s.guide.nodes c.in_ok-guide.guide) c.self.view_is c.in_ok-guide.ensures.ready

-- nothing is read where nothing is linked anew
pub returns-then-link_nothing-clause-spent : goal.returns-then-link_nothing-clause-spent
returns-then-link_nothing-clause-spent g c = IsSpent-none _ _ _

pub returns-clause-spent : goal.returns-clause-spent
returns-clause-spent g c =
    let plan = c.args.plan.now in
    let changes = c.args.changes.now in
    let graph = c.self.inside.graph.graph in
    let after = graph_then graph plan in
    let sets = sets_of c.self.inside.guide.nodes in
    let found = sets_of (nodes_then c.self.inside.guide.nodes c.in_ok-guide.guide.nodes) in
    let differ = subst (λ (s : RoomyDatabase). IsDelta s.db.graph (graph_then s.db.graph plan) plan.delta) (sym c.self.view_is) c.requires.delta in
    let leads = subst (λ (s : RoomyDatabase). IsGraphAfter s.db.graph changes (graph_then s.db.graph plan)) (sym c.self.view_is) c.requires.after in
    let stands = graph_guided c.names-names.result.now c.then-then.result.edges after c.names-names.ensures c.then-then.ensures.edges
    (guides.guide_then c.self.inside.guide.nodes c.in_ok-guide.guide) c.in_ok-guide.ensures.guide c.in_ok-guide.ensures.order in
    let reads : ReadsTouched sets (parents_of plan.delta.edges_gone) (parents_of plan.delta.edges_come) after.edges found
    c.args.steps.now c.plan.new.steps =
    rw (c.then-then.ensures.edges, c.as_slice-lost.ensures, c.as_slice-fresh.ensures, c.delta-delta.ensures) at c.in_ok-guide.ensures.steps in
    subst (λ (s : RoomyDatabase). IsSpent (IsTouched s.db.graph changes (graph_then s.db.graph plan)) (reads_of (graph_then s.db.graph plan).edges)
    c.args.steps.now c.plan.new.steps) c.self.view_is
    (planned_spent graph changes after leads sets c.self.invariant.guided.stands.nodes.exact plan.delta.edges_gone differ.edges_gone found
    stands.stands.nodes.exact (parents_of plan.delta.edges_come) c.args.steps.now c.plan.new.steps reads)

pub returns-in_err-guide-clause-refused : goal.returns-in_err-guide-clause-refused
returns-in_err-guide-clause-refused g c =
    let plan = c.args.plan.now in
    let changes = c.args.changes.now in
    let graph = c.self.inside.graph.graph in
    let after = graph_then graph plan in
    let limit = c.self.inside.limit in
    let sets = sets_of c.self.inside.guide.nodes in
    let differ = subst (λ (s : RoomyDatabase). IsDelta s.db.graph (graph_then s.db.graph plan) plan.delta) (sym c.self.view_is) c.requires.delta in
    let leads = subst (λ (s : RoomyDatabase). IsGraphAfter s.db.graph changes (graph_then s.db.graph plan)) (sym c.self.view_is) c.requires.after in
    let answered = err_from_is_err_and c.from_residual.result c.from_residual.ensures.1 in
    rw (answered.1, answered.2) (λ other.
    let reads : ReadsSome sets (parents_of plan.delta.edges_gone) (parents_of plan.delta.edges_come) limit after.names after.edges
    c.args.steps.now c.plan.new.steps =
    rw (c.then-then.ensures.edges, c.names-names.ensures, c.as_slice-lost.ensures, c.as_slice-fresh.ensures, c.delta-delta.ensures) at c.in_err-guide.ensures.reads (λ is. other (ap guide_fault is)) in
    subst (λ (s : RoomyDatabase). IsSpent (IsTouched s.db.graph changes (graph_then s.db.graph plan)) (reads_of (graph_then s.db.graph plan).edges)
    c.args.steps.now c.plan.new.steps) c.self.view_is
    (refused_spent graph changes after leads sets c.self.invariant.guided.stands.nodes.exact plan.delta.edges_gone differ.edges_gone (parents_of plan.delta.edges_come) limit
    c.args.steps.now c.plan.new.steps reads))
