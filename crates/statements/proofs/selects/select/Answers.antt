use Rattle.lorel_trees.specs.Trees.{select_tree, select}
use Rattle.statements.specs.Statements.{Cause, cause_order}
use Rattle.statements.proofs.StopLaws.{told_again}
use Rattle.statements.proofs.selects.select.Goals as goal

pub returns-in_err-selected-clause-refused : goal.returns-in_err-selected-clause-refused
returns-in_err-selected-clause-refused g c =
    told_again (Cause c.args.store.now.db (select (select_tree c.args.query.now))) cause_order c.from_residual.result c.in_err-selected.field-0.0
    c.from_residual.ensures.1 c.in_err-selected.ensures.refused
