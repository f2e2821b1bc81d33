use Rattle.std.proofs.lemmas.Result.{err_from_is_err_and}
use Rattle.oem_changes.proofs.ValidLaws.{rooted_graph}
use Rattle.oem_graph.specs.Plans.{graph_then}
use Rattle.lore_store.specs.Faults.{refusal_of}
use Rattle.lore_store.specs.inside.Parts.{plan_with}
use Rattle.lore_store.proofs.ReadLaws.{searched_within, explored_within, prepared_within}
use Rattle.lore_store.proofs.SizeLaws.{sized_clear, sized_told, guided_told}
use Rattle.lore_store.proofs.PreparedLaws.{leads_after, leads_valid}
use Rattle.lore_store.proofs.store.Store.other_parts.Goals as goal

pub returns-in_err-check_sizes-clause-err : goal.returns-in_err-check_sizes-clause-err
returns-in_err-check_sizes-clause-err g c =
    let db = c.args.self.now.db in
    let answered = err_from_is_err_and c.from_residual.result c.from_residual.ensures.1 in
    rw (answered.1, answered.2)
    (sized_told db c.args.changes.now (graph_then db.graph c.args.plan.now) c.requires.after (refusal_of c.in_err-check_sizes.field-0.0) c.in_err-check_sizes.ensures.err)

pub returns-in_err-check_sizes-clause-refused : goal.returns-in_err-check_sizes-clause-refused
returns-in_err-check_sizes-clause-refused g c =
    let db = c.args.self.now.db in
    let changes = c.args.changes.now in
    let overlay = c.args.overlay.now in
    let answered = err_from_is_err_and c.from_residual.result c.from_residual.ensures.1 in
    rw (answered.1, answered.2) (λ other first searched.
    searched_within db.graph changes overlay.edges overlay.lost overlay.fresh (rooted_graph db c.graph-valid.ensures.valid) c.requires.fits.graph c.requires.overlay
    (graph_then db.graph c.args.plan.now) c.requires.after first _ searched)

pub returns-in_err-guide-clause-err : goal.returns-in_err-guide-clause-err
returns-in_err-guide-clause-err g c =
    let db = c.args.self.now.db in
    let answered = err_from_is_err_and c.from_residual-in_err-guide.result c.from_residual-in_err-guide.ensures.1 in
    rw (answered.1, answered.2)
    (guided_told db c.args.changes.now (graph_then db.graph c.args.plan.now) c.requires.after c.in_ok-check_sizes.ensures.ok
    (refusal_of c.in_err-guide.field-0.0) c.in_err-guide.ensures.err)

pub returns-in_err-guide-clause-refused : goal.returns-in_err-guide-clause-refused
returns-in_err-guide-clause-refused g c =
    let db = c.args.self.now.db in
    let changes = c.args.changes.now in
    let overlay = c.args.overlay.now in
    let answered = err_from_is_err_and c.from_residual-in_err-guide.result c.from_residual-in_err-guide.ensures.1 in
    rw (answered.1, answered.2) (λ other first searched.
    explored_within db.graph changes overlay.edges overlay.lost overlay.fresh (rooted_graph db c.graph-valid.ensures.valid) c.requires.fits.graph c.requires.overlay
    (graph_then db.graph c.args.plan.now) c.requires.after first _ _ _ searched c.in_ok-cut.ensures.spent (c.in_err-guide.ensures.refused other))

pub returns-in-Ok-clause-after : goal.returns-in-Ok-clause-after
returns-in-Ok-clause-after g c =
    leads_after c.args.self.now.db c.args.changes.now c.graph-valid.ensures.valid c.requires.fits
    (plan_with c.args.plan.now (record { labels = c.in-Ok.labels; indexes = c.in-Ok.indexes; guide = c.in_ok-guide.guide })) c.in-Ok.ensures.come c.requires.after

pub returns-in-Ok-clause-leads : goal.returns-in-Ok-clause-leads
returns-in-Ok-clause-leads g c =
    let plan = plan_with c.args.plan.now (record { labels = c.in-Ok.labels; indexes = c.in-Ok.indexes; guide = c.in_ok-guide.guide }) in
    record {
      valid = leads_valid c.args.self.now.db c.args.changes.now c.graph-valid.ensures.valid c.requires.fits plan c.in-Ok.ensures.come c.requires.after
          c.in_ok-check_sizes.ensures.ok c.in_ok-guide.ensures.fits;
      labels = c.in-Ok.ensures.leads;
      indexes = c.in-Ok.ensures.entries;
      guided = c.in_ok-guide.ensures.guided;
      ready = c.in_ok-guide.ensures.ready;
    }

pub returns-in-Ok-clause-ok : goal.returns-in-Ok-clause-ok
returns-in-Ok-clause-ok g c =
    let db = c.args.self.now.db in
    sized_clear db c.args.changes.now (graph_then db.graph c.args.plan.now) c.requires.after c.in_ok-check_sizes.ensures.ok c.in_ok-guide.ensures.fits

pub returns-in-Ok-clause-reads : goal.returns-in-Ok-clause-reads
returns-in-Ok-clause-reads g c = λ first searched.
    let db = c.args.self.now.db in
    let changes = c.args.changes.now in
    let overlay = c.args.overlay.now in
    let plan = c.args.plan.now in
    prepared_within db.graph changes overlay.edges overlay.lost overlay.fresh (rooted_graph db c.graph-valid.ensures.valid) c.requires.fits.graph c.requires.overlay
    (graph_then db.graph plan) c.requires.after plan.delta c.requires.delta first _ _ _ _ searched c.in_ok-cut.ensures.spent c.in_ok-guide.ensures.spent
    c.in-Ok.ensures.reads
