use Rattle.std.proofs.Common.{◌∙◌}
use Rattle.lore_base.specs.Restores.{database_from}
use Rattle.lore_store.proofs.RestoredLaws.{restored_indexable, same_database, stored_as}
use Rattle.lore_store.proofs.store.Store.restored.Goals as goal

pub restored-requires : goal.restored-requires
restored-requires g c = restored_indexable (database_from c.args.restored.now) c.requires.sound

pub of_parts-requires : goal.of_parts-requires
of_parts-requires g c =
    let parts = c.in-Ok.parts in
    stored_as (database_from c.args.restored.now) parts.labels c.in_ok-graph.graph.graph parts.indexes parts.guide c.in-Ok.ensures.labels c.in_ok-graph.ensures
    c.in-Ok.ensures.stored

pub returns-in-Ok-clause-ok : goal.returns-in-Ok-clause-ok
returns-in-Ok-clause-ok g c =
    c.of_parts.ensures
    ∙ same_database (database_from c.args.restored.now) c.in-Ok.parts.labels c.in_ok-graph.graph.graph c.in-Ok.ensures.labels c.in_ok-graph.ensures

pub returns-in-Ok-clause-valid : goal.returns-in-Ok-clause-valid
returns-in-Ok-clause-valid g c = c.in-Ok.ensures.stored.valid
