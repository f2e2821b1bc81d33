use Rattle.lore_store.specs.Faults.{refusal_of}
use Rattle.lorel_trees.specs.Trees.{statement_tree}
use Rattle.lorel_trees.proofs.FormLaws.{sound_statement}
use Rattle.statements.specs.Statements.{Cause, cause_order}
use Rattle.lore_base.specs.ChangeCauses.{DatabaseCause}
use Rattle.statements.proofs.BoundLaws.{stops_unread, effects_within, stops_within}
use Rattle.statements.proofs.ExecutionLaws.{changes_fit, changes_told, changes_made, uncounted_change}
use Rattle.statements.proofs.StopLaws.{told_on, told_again}
use Rattle.statements.proofs.changing.planned.Goals as goal

pub returns-in_err-changes-clause-refused : goal.returns-in_err-changes-clause-refused
returns-in_err-changes-clause-refused g c =
    let tree = statement_tree c.args.statement.now in
    let stop = c.in_err-changes.field-0.0 in
    told_again (Cause c.args.store.now.db tree) cause_order c.from_residual.result stop c.from_residual.ensures.1
    c.in_err-changes.ensures.refused

pub returns-in_err-changes-clause-uncounted : goal.returns-in_err-changes-clause-uncounted
returns-in_err-changes-clause-uncounted g c = λ quiet.
    let tree = statement_tree c.args.statement.now in
    c.in_err-changes.ensures.uncounted (uncounted_change c.args.store.now.db tree c.requires.changing quiet)

pub returns-in_err-changes-clause-stopped : goal.returns-in_err-changes-clause-stopped
returns-in_err-changes-clause-stopped g c =
    let tree = statement_tree c.args.statement.now in
    stops_unread c.args.store.now.db tree c.from_residual.result _ _ c.in_err-changes.ensures.unread

pub prepare-requires : goal.prepare-requires
prepare-requires g c =
    let tree = statement_tree c.args.statement.now in
    let changes = c.in_ok-changes.changes in
    record {
      fits = changes_fit c.args.store.now.db tree changes c.in_ok-changes.ensures.lists c.graph-graph.ensures.valid
          (sound_statement tree c.requires.sound);
    }

pub returns-in_err-prepared-clause-refused : goal.returns-in_err-prepared-clause-refused
returns-in_err-prepared-clause-refused g c =
    let db = c.args.store.now.db in
    let tree = statement_tree c.args.statement.now in
    let fault = c.in_err-prepared.field-0.0 in
    told_on (Cause db tree) cause_order c.from_residual-in_err-prepared.result (refusal_of fault) c.from_residual-in_err-prepared.ensures.1
    (changes_told db tree c.in_ok-changes.changes c.in_ok-changes.ensures.lists (refusal_of fault) c.in_err-prepared.ensures.err)

pub returns-in_err-prepared-clause-uncounted : goal.returns-in_err-prepared-clause-uncounted
returns-in_err-prepared-clause-uncounted g c = λ quiet.
    let tree = statement_tree c.args.statement.now in
    absurd (uncounted_change c.args.store.now.db tree c.requires.changing quiet c.in_ok-changes.ensures.lists.changing)

pub returns-in_err-prepared-clause-stopped : goal.returns-in_err-prepared-clause-stopped
returns-in_err-prepared-clause-stopped g c =
    let db = c.args.store.now.db in
    let changes = c.in_ok-changes.changes in
    stops_within db (statement_tree c.args.statement.now) changes c.in_ok-changes.ensures.lists _ _ _ c.in_ok-changes.ensures.unread
    (DatabaseCause db changes) c.in_err-prepared.field-0.0 c.in_err-prepared.ensures.refused
    c.from_residual-in_err-prepared.result c.from_residual-in_err-prepared.ensures.1 c.in_err-prepared.ensures.err

pub returns-clause-labels : goal.returns-clause-labels
returns-clause-labels g c = c.in_ok-prepared.ensures.after.labels

pub returns-clause-made : goal.returns-clause-made
returns-clause-made g c =
    let tree = statement_tree c.args.statement.now in
    changes_made c.args.store.now.db tree c.in_ok-changes.changes c.in_ok-changes.ensures.lists _ c.in_ok-prepared.ensures.ok
    c.in_ok-prepared.ensures.after

pub returns-clause-uncounted : goal.returns-clause-uncounted
returns-clause-uncounted g c = λ quiet.
    let tree = statement_tree c.args.statement.now in
    absurd (uncounted_change c.args.store.now.db tree c.requires.changing quiet c.in_ok-changes.ensures.lists.changing)

pub returns-clause-bounded : goal.returns-clause-bounded
returns-clause-bounded g c =
    effects_within c.args.store.now.db (statement_tree c.args.statement.now) c.in_ok-changes.changes c.in_ok-changes.ensures.lists _ _ _
    c.in_ok-changes.ensures.unread c.in_ok-prepared.ensures.reads
