use Rattle.std.proofs.Common.{Option, option_map, sym, ap, ◌∙◌}
use Rattle.lorel_trees.specs.declared.selects.Select.{Select}
use Rattle.lorel_trees.specs.Trees.{select_tree, statement_tree}
use Rattle.lorel_bound.specs.Bound.{bound_tree}
use Rattle.statements.specs.Statements.{Cause}
use Rattle.statements.specs.Stops.{told}
use Rattle.statements.specs.inside.Stages.{found_order}
use Rattle.statements.proofs.ShallowLaws.{rows_shallow}
use Rattle.statements.proofs.StopLaws.{told_again}
use Rattle.statements.proofs.UpdateLaws.{bind_stops, rows_go}
use Rattle.statements.proofs.UpdatingLaws.{rows_are, rows_told}
use Rattle.statements.proofs.updating.update_rows.Goals as goal

pub bound-bound-requires : goal.bound-bound-requires
bound-bound-requires g c =
    let form = sym c.in_ok-query.ensures ∙ ap (λ (o : Option Select). option_map select_tree o) c.in-Some.is in
    rows_shallow (statement_tree c.args.statement.now) (select_tree c.in-Some.query) c.requires.sound form

pub returns-in_err-bound-clause-refused : goal.returns-in_err-bound-clause-refused
returns-in_err-bound-clause-refused g c =
    let db = c.args.store.now.db in
    let statement = statement_tree c.args.statement.now in
    let form = sym c.in_ok-query.ensures ∙ ap (λ (o : Option Select). option_map select_tree o) c.in-Some.is in
    told_again (Cause db statement) found_order c.from_residual-in_err-bound.result c.in_err-bound.field-0.0 c.from_residual-in_err-bound.ensures.1
    (bind_stops db statement c.requires.update (select_tree c.in-Some.query) form (told c.in_err-bound.field-0.0) c.in_err-bound.ensures.refused)

pub returns-in_err-answer-clause-refused : goal.returns-in_err-answer-clause-refused
returns-in_err-answer-clause-refused g c =
    let db = c.args.store.now.db in
    let statement = statement_tree c.args.statement.now in
    let form = sym c.in_ok-query.ensures ∙ ap (λ (o : Option Select). option_map select_tree o) c.in-Some.is in
    told_again (Cause db statement) found_order c.from_residual-in_err-answer.result c.in_err-answer.field-0.0 c.from_residual-in_err-answer.ensures.1
    (rows_told db statement c.requires.update (select_tree c.in-Some.query) form (bound_tree c.in_ok-bound.bound) c.in_ok-bound.ensures.binding
    c.in_ok-bound.ensures.ok (told c.in_err-answer.field-0.0) c.in_err-answer.ensures.refused)

pub returns-clause-rows : goal.returns-clause-rows
returns-clause-rows g c =
    let form = sym c.in_ok-query.ensures ∙ ap (λ (o : Option Select). option_map select_tree o) c.in-Some.is in
    let found = rows_are c.args.store.now.db (statement_tree c.args.statement.now) c.requires.update (select_tree c.in-Some.query) form
    (bound_tree c.in_ok-bound.bound) c.in_ok-bound.ensures.binding c.in_ok-answer.field-0 c.in_ok-answer.ensures.rows in
    (found.0, found.1, c.in_ok-pairs_of.ensures found.0 found.2)

pub returns-clause-ok : goal.returns-clause-ok
returns-clause-ok g c =
    let form = sym c.in_ok-query.ensures ∙ ap (λ (o : Option Select). option_map select_tree o) c.in-Some.is in
    rows_go c.args.store.now.db (statement_tree c.args.statement.now) c.requires.update (select_tree c.in-Some.query) form c.in_ok-bound.ensures.ok
    (bound_tree c.in_ok-bound.bound) c.in_ok-bound.ensures.binding c.in_ok-answer.ensures.locals c.in_ok-answer.field-0 c.in_ok-answer.ensures.rows
