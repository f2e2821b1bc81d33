use Rattle.std.proofs.Common.{ap, sym, subst, ◌∙◌, arith}
use Rattle.lore_base.specs.ChangeSets.{FitsGraph, Fits, IsGraphAfter, IsOverlay}
use Rattle.lore_base.specs.Deltas.{IsDelta}
use Rattle.lore_base.specs.Verdicts.{IsClear}
use Rattle.oem_changes.proofs.ValidLaws.{rooted_graph}
use Rattle.oem_changes.proofs.RootedLaws.{rooted_after}
use Rattle.oem_labels.specs.Labels.{first_uses, LeadsFrom}
use Rattle.oem_graph.specs.Plans.{graph_then}
use Rattle.value_changes.specs.Reads.{ReadsChanged}
use Rattle.lore_store.specs.Indexes.{AreIndexed}
use Rattle.lore_store.specs.Stores.{RoomyDatabase, database_of, store_order}
use Rattle.lore_store.specs.inside.Sizes.{SizeCause}
use Rattle.lore_store.proofs.ReadLaws.{edges_read}
use Rattle.lore_store.proofs.PreparedLaws.{labels_fit}
use Rattle.lore_store.proofs.store.Store.labels_and_entries.Goals as goal

pub plan_new-requires : goal.plan_new-requires
plan_new-requires g c =
    let changes = c.args.changes.now in
    let fits = subst (λ (store : RoomyDatabase). Fits store.db changes) (sym c.self.view_is) c.requires.fits in
    record { few = labels_fit (database_of c.self.inside.labels c.self.inside.graph.graph c.self.inside.limit c.self.inside.mode) changes c.self.invariant.valid fits }

pub planned_indexes-requires-clause-rooted : goal.planned_indexes-requires-clause-rooted
planned_indexes-requires-clause-rooted g c =
    rooted_graph (database_of c.self.inside.labels c.self.inside.graph.graph c.self.inside.limit c.self.inside.mode) c.self.invariant.valid

pub planned_indexes-requires-clause-then : goal.planned_indexes-requires-clause-then
planned_indexes-requires-clause-then g c =
    let graph = c.self.inside.graph.graph in
    let changes = c.args.changes.now in
    let plan = c.args.plan.now in
    let rooted = rooted_graph (database_of c.self.inside.labels graph c.self.inside.limit c.self.inside.mode) c.self.invariant.valid in
    let fits = subst (λ (store : RoomyDatabase). FitsGraph store.db.graph changes) (sym c.self.view_is) c.requires.fits.graph in
    let after = subst (λ (store : RoomyDatabase). IsGraphAfter store.db.graph changes (graph_then store.db.graph plan)) (sym c.self.view_is) c.requires.after in
    rooted_after graph changes rooted.well_formed fits (graph_then graph plan) after

pub planned_indexes-requires-clause-delta : goal.planned_indexes-requires-clause-delta
planned_indexes-requires-clause-delta g c =
    let plan = c.args.plan.now in
    subst (λ (store : RoomyDatabase). IsDelta store.db.graph (graph_then store.db.graph plan) plan.delta) (sym c.self.view_is) c.requires.delta

pub planned_indexes-requires-clause-read : goal.planned_indexes-requires-clause-read
planned_indexes-requires-clause-read g c =
    let graph = c.self.inside.graph.graph in
    let changes = c.args.changes.now in
    let overlay = c.args.overlay.now in
    let plan = c.args.plan.now in
    let rooted = rooted_graph (database_of c.self.inside.labels graph c.self.inside.limit c.self.inside.mode) c.self.invariant.valid in
    let fits = subst (λ (store : RoomyDatabase). FitsGraph store.db.graph changes) (sym c.self.view_is) c.requires.fits.graph in
    let over = subst (λ (store : RoomyDatabase). IsOverlay store.db.graph.edges changes overlay.edges overlay.lost overlay.fresh) (sym c.self.view_is) c.requires.overlay in
    let after = subst (λ (store : RoomyDatabase). IsGraphAfter store.db.graph changes (graph_then store.db.graph plan)) (sym c.self.view_is) c.requires.after in
    let differ = subst (λ (store : RoomyDatabase). IsDelta store.db.graph (graph_then store.db.graph plan) plan.delta) (sym c.self.view_is) c.requires.delta in
    edges_read graph changes overlay.edges overlay.lost overlay.fresh rooted fits over (graph_then graph plan) after plan.delta.edges_gone differ.edges_gone

pub planned_indexes-requires-clause-few : goal.planned_indexes-requires-clause-few
planned_indexes-requires-clause-few g c =
    let sized = subst (λ (store : RoomyDatabase). IsClear (SizeCause (graph_then store.db.graph c.args.plan.now)) store_order) (sym c.self.view_is) c.requires.sized in
    omega (arith, sized.1.1.0)

pub returns-in-Ok-clause-come : goal.returns-in-Ok-clause-come
returns-in-Ok-clause-come g c = c.in_ok-labels.ensures.come ∙ ap (λ (store : RoomyDatabase). first_uses store.db.labels c.args.changes.now.labels) c.self.view_is

pub returns-in-Ok-clause-leads : goal.returns-in-Ok-clause-leads
returns-in-Ok-clause-leads g c = subst (λ (store : RoomyDatabase). LeadsFrom store.db.labels c.in_ok-labels.labels) c.self.view_is c.in_ok-labels.ensures.leads

pub returns-in-Ok-clause-entries : goal.returns-in-Ok-clause-entries
returns-in-Ok-clause-entries g c =
    subst (λ (store : RoomyDatabase). AreIndexed store.db.graph (graph_then store.db.graph c.args.plan.now) c.in-Ok.indexes) c.self.view_is c.in-Ok.ensures.entries

pub returns-in-Ok-clause-reads : goal.returns-in-Ok-clause-reads
returns-in-Ok-clause-reads g c =
    let overlay = c.args.overlay.now in
    let plan = c.args.plan.now in
    subst (λ (store : RoomyDatabase). ReadsChanged overlay.edges plan.delta.edges_gone plan.delta.edges_come plan.delta.objects_come
    store.db.graph.objects (graph_then store.db.graph plan).objects c.args.steps.now c.planned_indexes.new.steps) c.self.view_is
    (c.in-Ok.ensures.reads c.requires.overlay.linked.ascend)
