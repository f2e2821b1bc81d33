use Rattle.lorel_trees.specs.Trees.{statement_tree}
use Rattle.updates.specs.Faults.{refusal_of}
use Rattle.statements.specs.Statements.{Cause, cause_order}
use Rattle.statements.specs.Stops.{told}
use Rattle.statements.specs.inside.Stages.{found_order, change_order}
use Rattle.statements.proofs.OrderLaws.{told_left}
use Rattle.statements.proofs.StopLaws.{told_on, told_again}
use Rattle.statements.proofs.UpdatingLaws.{pairs_targets, pairs_told, pairs_list}
use Rattle.statements.proofs.updating.update_changes.Goals as goal

pub returns-in_err-rows-clause-refused : goal.returns-in_err-rows-clause-refused
returns-in_err-rows-clause-refused g c =
    let cause = Cause c.args.store.now.db (statement_tree c.args.statement.now) in
    told_again cause cause_order c.from_residual.result c.in_err-rows.field-0.0 c.from_residual.ensures.1
    (told_left cause found_order change_order (told c.in_err-rows.field-0.0) c.in_err-rows.ensures.refused)

pub changes_of-requires-clause-rows : goal.changes_of-requires-clause-rows
changes_of-requires-clause-rows g c =
    let rows = c.in_ok-rows.ensures.rows in
    pairs_targets c.args.store.now.db c.graph-graph.ensures.valid (statement_tree c.args.statement.now) c.requires.update
    c.in_ok-rows.rows rows.0 rows.1 rows.2 c.in_ok-rows.ensures.ok c.labels-labels.result.now c.graph-graph.result.now.graph
    c.labels-labels.ensures c.graph-graph.ensures.graph

pub returns-in_err-changes_of-clause-refused : goal.returns-in_err-changes_of-clause-refused
returns-in_err-changes_of-clause-refused g c =
    let db = c.args.store.now.db in
    let statement = statement_tree c.args.statement.now in
    let rows = c.in_ok-rows.ensures.rows in
    let told = refusal_of c.in_err-changes_of.field-0.0 in
    told_on (Cause db statement) cause_order c.from_residual-in_err-changes_of.result told c.from_residual-in_err-changes_of.ensures.1
    (pairs_told db c.graph-graph.ensures.valid statement c.requires.update c.in_ok-rows.rows rows.0 rows.1 rows.2 c.in_ok-rows.ensures.ok
    c.labels-labels.result.now c.graph-graph.result.now.graph c.labels-labels.ensures c.graph-graph.ensures.graph
    told c.in_err-changes_of.ensures.err)

pub returns-clause-lists : goal.returns-clause-lists
returns-clause-lists g c =
    let rows = c.in_ok-rows.ensures.rows in
    pairs_list c.args.store.now.db c.graph-graph.ensures.valid (statement_tree c.args.statement.now) c.requires.update
    c.in_ok-rows.rows rows.0 rows.1 rows.2 c.in_ok-rows.ensures.ok c.labels-labels.result.now c.graph-graph.result.now.graph
    c.labels-labels.ensures c.graph-graph.ensures.graph c.in_ok-changes_of.field-0 c.in_ok-changes_of.ensures.same c.in_ok-changes_of.ensures.ok
