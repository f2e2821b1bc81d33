use Rattle.std.proofs.Common.{sym, ap}
use Rattle.std.proofs.lemmas.Result.{err_from_is_err_and}
use Rattle.lore_base.specs.Databases.{OemGraph}
use Rattle.lore_base.specs.Restores.{database_from}
use Rattle.lore_store.proofs.RestoredLaws.{restored_labels, restored_stored, built_guide, built_fits, built_cause, restore_cause}
use Rattle.lore_store.proofs.store.restored_parts.Goals as goal

pub labels_and_indexes-requires : goal.labels_and_indexes-requires
labels_and_indexes-requires g c =
    let sound = c.requires.whole.sound in record {
      texts = restored_labels (database_from c.args.restored.now) sound;
      rooted = rw c.requires.same sound.rooted;
      edges = sym (ap (λ (g : OemGraph). g.edges) c.requires.same);
      few = sound.few_edges;
    }

pub returns-in-Ok-clause-stored : goal.returns-in-Ok-clause-stored
returns-in-Ok-clause-stored g c =
    let db = database_from c.args.restored.now in
    let graph = c.args.graph.now.graph in
    let names = c.names.result.now in
    let guide = c.in_ok-guide.guide in
    restored_stored db c.requires.whole.sound graph c.in-Ok.indexes guide c.requires.same c.in-Ok.ensures.indexes
    (built_guide names graph db.graph c.names.ensures c.requires.same guide c.in_ok-guide.ensures.guide c.in_ok-guide.ensures.order)
    (built_fits names graph db.graph c.names.ensures c.requires.same db.nodes c.in_ok-guide.ensures.fits)

pub returns-in_err-guide-clause-cause : goal.returns-in_err-guide-clause-cause
returns-in_err-guide-clause-cause g c =
    let db = database_from c.args.restored.now in
    let error = c.in_err-guide.field-0.0 in
    let answered = err_from_is_err_and c.from_residual.result c.from_residual.ensures.1 in
    rw (answered.1, answered.2)
    (restore_cause db error (built_cause c.names.result.now c.args.graph.now.graph db.graph c.names.ensures c.requires.same db.nodes error
    c.in_err-guide.ensures.cause))
