use Rattle.lorel_trees.specs.Trees.{select_tree, select}
use Rattle.statements.specs.Statements.{Cause, cause_order}
use Rattle.statements.specs.Stops.{told}
use Rattle.statements.proofs.ExecutionLaws.{select_performs, select_told}
use Rattle.statements.proofs.StopLaws.{told_again}
use Rattle.statements.proofs.selects.selected.Goals as goal

pub returns-in_err-answer-clause-refused : goal.returns-in_err-answer-clause-refused
returns-in_err-answer-clause-refused g c =
    let db = c.args.store.now.db in
    let query = select_tree c.args.query.now in
    let stop = c.in_err-answer.field-0.0 in
    told_again (Cause db (select query)) cause_order c.from_residual.result stop c.from_residual.ensures.1
    (select_told db query (told stop) c.in_err-answer.ensures.refused)

pub returns-clause-ok : goal.returns-clause-ok
returns-clause-ok g c =
    select_performs c.args.store.now.db (select_tree c.args.query.now) c.in_ok-answer.answer c.in_ok-answer.ensures.ok c.in_ok-answer.ensures.rows
