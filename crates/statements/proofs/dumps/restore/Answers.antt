use Rattle.lore_store.specs.Faults.{restore_refusal}
use Rattle.lorel_trees.specs.Trees.{restore}
use Rattle.statements.specs.Statements.{Cause, cause_order}
use Rattle.statements.proofs.StopLaws.{told_on}
use Rattle.statements.proofs.DumpStatementLaws.{restore_told, restored_executes}
use Rattle.statements.proofs.dumps.restore.Goals as goal

pub returns-in_err-restore-clause-refused : goal.returns-in_err-restore-clause-refused
returns-in_err-restore-clause-refused g c =
    let db = c.args.store.now.db in
    let text = c.args.text.now in
    let fault = c.in_err-restore.field-0.0 in
    let new = c.is_new.ensures.0 c.if-not-is_new.false in
    told_on (Cause db (restore text)) cause_order c.from_residual-in_err-restore.result (restore_refusal fault) c.from_residual-in_err-restore.ensures.1
    (restore_told db text new c.in_ok-restored.restored c.in_ok-restored.ensures.restored fault c.in_err-restore.ensures.cause)

pub returns-clause-ok : goal.returns-clause-ok
returns-clause-ok g c =
    let db = c.args.store.now.db in
    let text = c.args.text.now in
    let new = c.is_new.ensures.0 c.if-not-is_new.false in
    restored_executes db text new c.in_ok-restored.restored c.in_ok-restored.ensures.restored c.restore.new.self.db c.counts.result
    c.in_ok-restore.ensures.ok c.in_ok-restore.ensures.valid c.counts.ensures
