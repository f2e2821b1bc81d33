use Rattle.std.proofs.Common.{List, Contains, sym, ◌∙◌, subst}
use Rattle.lore_base.specs.declared.edges.Oid.{Oid}
use Rattle.lore_base.specs.declared.edges.Edge.{Edge}
use Rattle.lore_base.specs.declared.values.Value.{Value}
use Rattle.lore_base.specs.ChangeSets.{FitsGraph, IsOverlay, IsGraphAfter}
use Rattle.oem_changes.proofs.ValidLaws.{rooted_graph}
use Rattle.oem_graph.specs.Plans.{graph_then}
use Rattle.dataguide.specs.Changes.{TellsEntering}
use Rattle.read_costs.specs.Spent.{IsSpent}
use Rattle.read_costs.specs.ReadCosts.{in_reads}
use Rattle.read_costs.specs.Concerned.{IsConcerned}
use Rattle.lore_store.specs.Stores.{RoomyDatabase, database_of}
use Rattle.lore_store.specs.inside.Cuts.{AreCutLinks}
use Rattle.lore_store.proofs.ReadLaws.{cut_tells, cut_spent}
use Rattle.lore_store.proofs.store.Store.links_cut.Goals as goal

pub returns-clause-tells : goal.returns-clause-tells
returns-clause-tells g c =
    let graph = c.self.inside.graph.graph in
    let changes = c.args.changes.now in
    let between = c.args.overlay.now in
    let plan = c.args.plan.now in
    let cut = c.in_ok-cut.cut in
    let rooted = rooted_graph (database_of c.self.inside.labels graph c.self.inside.limit c.self.inside.mode) c.self.invariant.valid in
    let fits = subst (λ (store : RoomyDatabase). FitsGraph store.db.graph changes) (sym c.self.view_is) c.requires.fits in
    let over = subst (λ (store : RoomyDatabase). IsOverlay store.db.graph.edges changes between.edges between.lost between.fresh) (sym c.self.view_is) c.requires.overlay in
    let after = subst (λ (store : RoomyDatabase). IsGraphAfter store.db.graph changes (graph_then store.db.graph plan)) (sym c.self.view_is) c.requires.after in
    let are = subst (λ (l : List (Oid × Value)). AreCutLinks between.edges l cut.oids cut.edges) c.then-then.ensures.objects
    c.in_ok-cut.ensures.found in
    subst (λ (store : RoomyDatabase). TellsEntering (graph_then store.db.graph plan).edges cut.oids cut.edges) c.self.view_is
    (cut_tells graph changes between.edges between.lost between.fresh rooted fits over (graph_then graph plan) after cut.oids
    cut.edges are)

pub returns-clause-spent : goal.returns-clause-spent
returns-clause-spent g c =
    let graph = c.self.inside.graph.graph in
    let changes = c.args.changes.now in
    let between = c.args.overlay.now in
    let plan = c.args.plan.now in
    let rooted = rooted_graph (database_of c.self.inside.labels graph c.self.inside.limit c.self.inside.mode) c.self.invariant.valid in
    let fits = subst (λ (store : RoomyDatabase). FitsGraph store.db.graph changes) (sym c.self.view_is) c.requires.fits in
    let over = subst (λ (store : RoomyDatabase). IsOverlay store.db.graph.edges changes between.edges between.lost between.fresh) (sym c.self.view_is) c.requires.overlay in
    let after = subst (λ (store : RoomyDatabase). IsGraphAfter store.db.graph changes (graph_then store.db.graph plan)) (sym c.self.view_is) c.requires.after in
    let within = λ (edge : Edge) (at : Contains c.few_of-edges.result.now edge). subst (λ (l : List Edge). Contains l edge)
    (c.as_slice.ensures ∙ c.lost-lost.ensures) (c.few_of-edges.ensures edge at) in
    subst (λ (store : RoomyDatabase). IsSpent (IsConcerned store.db.graph changes between.edges) (in_reads between.edges)
    c.args.steps.now c.cut_links.new.steps) c.self.view_is
    (cut_spent graph changes between.edges between.lost between.fresh rooted fits over (graph_then graph plan) after
    c.few_of-edges.result.now within c.args.steps.now c.cut_links.new.steps c.in_ok-cut.ensures.reads)
