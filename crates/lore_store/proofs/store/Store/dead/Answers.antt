use Rattle.std.proofs.Common.{◌*◌, IfOk, OnOk, refl, sym, subst}
use Rattle.std.proofs.lemmas.Result.{IfOk-weaker}
use Rattle.lore_base.specs.declared.edges.Oid.{Oid}
use Rattle.lore_base.specs.ChangeSets.{FitsGraph, AreDead, IsOverlay}
use Rattle.oem_changes.proofs.ValidLaws.{rooted_graph}
use Rattle.read_costs.specs.Spent.{IsSpent}
use Rattle.read_costs.specs.ReadCosts.{link_reads}
use Rattle.read_costs.specs.Concerned.{IsInDoubt}
use Rattle.read_costs.proofs.SpentLaws.{IsSpent-none}
use Rattle.oem_reach.proofs.SearchLaws.{reads_are_within_twice}
use Rattle.lore_store.specs.Stores.{RoomyDatabase, database_of}
use Rattle.lore_store.proofs.PreparedLaws.{none_dead}
use Rattle.lore_store.proofs.store.Store.dead.Goals as goal

pub returns-then-link_nothing-clause-dead : goal.returns-then-link_nothing-clause-dead
returns-then-link_nothing-clause-dead g c =
    let graph = c.self.inside.graph.graph in
    let changes = c.args.changes.now in
    let rooted = rooted_graph (database_of c.self.inside.labels graph c.self.inside.limit c.self.inside.mode) c.self.invariant.valid in
    let fits = subst (λ (store : RoomyDatabase). FitsGraph store.db.graph changes) (sym c.self.view_is) c.requires.fits in
    let none = none_dead graph changes rooted fits (c.link_nothing.ensures c.if-link_nothing.true) in
    subst (λ (store : RoomyDatabase). AreDead store.db.graph changes c.new.result) c.self.view_is
    (subst (AreDead graph changes) (sym c.new.ensures) none)

pub returns-then-link_nothing-clause-spent : goal.returns-then-link_nothing-clause-spent
returns-then-link_nothing-clause-spent g c = IsSpent-none _ _ _

pub returns-clause-dead : goal.returns-clause-dead
returns-clause-dead g c =
    let graph = c.self.inside.graph.graph in
    let changes = c.args.changes.now in
    let between = c.args.overlay.now in
    let rooted = rooted_graph (database_of c.self.inside.labels graph c.self.inside.limit c.self.inside.mode) c.self.invariant.valid in
    let fits = subst (λ (store : RoomyDatabase). FitsGraph store.db.graph changes) (sym c.self.view_is) c.requires.fits in
    let over = subst (λ (store : RoomyDatabase). IsOverlay store.db.graph.edges changes between.edges between.lost between.fresh) (sym c.self.view_is) c.requires.overlay in
    subst (λ (store : RoomyDatabase). IfOk c.dead_objects.result (λ dead. AreDead store.db.graph changes dead)) c.self.view_is
    (IfOk-weaker c.dead_objects.result _ _ (λ dead is. is graph rooted (sym c.names-names.ensures) fits (rw (c.lost-lost.ensures, c.fresh-fresh.ensures) over) refl) c.dead_objects.ensures.dead)

pub returns-clause-spent : goal.returns-clause-spent
returns-clause-spent g c =
    let graph = c.self.inside.graph.graph in
    let changes = c.args.changes.now in
    let between = c.args.overlay.now in
    let rooted = rooted_graph (database_of c.self.inside.labels graph c.self.inside.limit c.self.inside.mode) c.self.invariant.valid in
    let fits = subst (λ (store : RoomyDatabase). FitsGraph store.db.graph changes) (sym c.self.view_is) c.requires.fits in
    let over = subst (λ (store : RoomyDatabase). IsOverlay store.db.graph.edges changes between.edges between.lost between.fresh) (sym c.self.view_is) c.requires.overlay in
    subst (λ (store : RoomyDatabase). OnOk c.dead_objects.result (IsSpent (IsInDoubt store.db.graph changes between.edges) (λ (oid : Oid). 2 * link_reads between.edges oid)
    c.args.steps.now c.dead_objects.new.steps)) c.self.view_is
    (IfOk-weaker c.dead_objects.result _ _ (λ dead reads. reads_are_within_twice graph changes between.edges c.args.steps.now c.dead_objects.new.steps
    (reads graph rooted (sym c.names-names.ensures) fits (rw (c.lost-lost.ensures, c.fresh-fresh.ensures) over) refl)) c.dead_objects.ensures.reads)
