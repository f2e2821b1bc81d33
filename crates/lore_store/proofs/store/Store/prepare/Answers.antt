use Rattle.std.proofs.Common.{subst}
use Rattle.lore_base.specs.ChangeSets.{IsOverlay}
use Rattle.lore_store.specs.Stores.{RoomyDatabase}
use Rattle.lore_store.proofs.store.Store.prepare.Goals as goal

pub prepare_over-prepared-requires-clause-overlay : goal.prepare_over-prepared-requires-clause-overlay
prepare_over-prepared-requires-clause-overlay g c =
    let overlay = c.in_ok-overlay.overlay in
    subst (λ (store : RoomyDatabase). IsOverlay store.db.graph.edges c.args.changes.now overlay.edges overlay.lost overlay.fresh) c.self.view_is c.in_ok-overlay.ensures
