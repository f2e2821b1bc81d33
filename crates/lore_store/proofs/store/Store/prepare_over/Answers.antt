use Rattle.std.proofs.Common.{subst}
use Rattle.lore_base.specs.ChangeSets.{IsGraphAfter}
use Rattle.lore_base.specs.Deltas.{IsDelta}
use Rattle.oem_graph.specs.Plans.{graph_then}
use Rattle.lore_store.specs.Stores.{RoomyDatabase}
use Rattle.lore_store.proofs.store.Store.prepare_over.Goals as goal

pub other_parts-requires-clause-after : goal.other_parts-requires-clause-after
other_parts-requires-clause-after g c =
    let plan = c.in_ok-graph.graph in
    subst (λ (store : RoomyDatabase). IsGraphAfter store.db.graph c.args.changes.now (graph_then store.db.graph plan)) c.self.view_is c.in_ok-graph.ensures.after

pub other_parts-requires-clause-delta : goal.other_parts-requires-clause-delta
other_parts-requires-clause-delta g c =
    let plan = c.in_ok-graph.graph in
    subst (λ (store : RoomyDatabase). IsDelta store.db.graph (graph_then store.db.graph plan) plan.delta) c.self.view_is c.in_ok-graph.ensures.delta

pub returns-in-Ok-clause-reads : goal.returns-in-Ok-clause-reads
returns-in-Ok-clause-reads g c = c.in-Ok.ensures.reads _ c.in_ok-dead.ensures.spent
