use Rattle.std.proofs.Common.{◌≡◌, List, Result, Ok, IfOk, subst}
use Rattle.std.specs.Prelude.{IfErr, OnOk}
use Rattle.lore_base.specs.Verdicts.{IsClear, IsToldBy}
use Rattle.lorel_trees.specs.Trees.{SelectTree, rooted_tree, select_tree, bind}
use Rattle.lorel_bind.specs.Answers.{IsAnswer}
use Rattle.lore_base.specs.Databases.{Database}
use Rattle.statements.specs.Types.{Cell}
use Rattle.statements.specs.Forms.{path_select}
use Rattle.statements.specs.Statements.{Cause, cause_order}
use Rattle.statements.specs.Stops.{told}
use Rattle.statements.specs.inside.Stages.{ReadCause, read_order}
use Rattle.statements.specs.declared.stops.Stop.{Stop}
use Rattle.statements.proofs.StopLaws.{told_again}
use Rattle.statements.proofs.NamingLaws.{path_stopped, single_cells, several_stop, named_lists}
use Rattle.statements.proofs.namings.name_changes.Goals as goal

-- what is said of rows that there are, of the select in other words
rows_answer : (db : Database) (query tree : SelectTree) (answer : Result (List (List Cell)) Stop) (rows : List (List Cell)) → answer ≡ Ok rows
    → query ≡ tree → IfOk answer (λ found. IsAnswer db query found) → IsAnswer db tree rows
rows_answer db query tree answer rows is same h =
    subst (λ (q : SelectTree). IsAnswer db q rows) same
    (subst (λ (r : Result (List (List Cell)) Stop). IfOk r (λ found. IsAnswer db query found)) is h)

rows_clear : (db : Database) (query tree : SelectTree) (answer : Result (List (List Cell)) Stop) (rows : List (List Cell)) → answer ≡ Ok rows
    → query ≡ tree → OnOk answer (IsClear (ReadCause db query) read_order) → IsClear (ReadCause db tree) read_order
rows_clear db query tree answer rows is same h =
    subst (λ (q : SelectTree). IsClear (ReadCause db q) read_order) same
    (subst (λ (r : Result (List (List Cell)) Stop). OnOk r (IsClear (ReadCause db query) read_order)) is h)

pub returns-in_err-rows-clause-refused : goal.returns-in_err-rows-clause-refused
returns-in_err-rows-clause-refused g c =
    let db = c.args.store.now.db in
    let name = c.args.name.now in
    let path = rooted_tree c.args.path.now in
    let stop = c.in_err-rows.field-0.0 in
    let ended = c.in_err-rows.ensures.refused in
    let query = select_tree c.in_ok-query.query in
    let refused = subst (λ (r : Result (List (List Cell)) Stop). IfErr r (λ s. IsToldBy (ReadCause db query) read_order (told s))) ended.1
    c.rows_of-answer.ensures.refused in
    told_again (Cause db (bind name path)) cause_order c.from_residual-in_err-rows.result stop c.from_residual-in_err-rows.ensures.1
    (path_stopped db c.graph-graph.ensures.valid name path (told stop) (told ended.0) ended.2
    (subst (λ (q : SelectTree). IsToldBy (ReadCause db q) read_order (told ended.0)) c.in_ok-query.ensures refused))

pub only_object-requires : goal.only_object-requires
only_object-requires g c =
    let db = c.args.store.now.db in
    let rows = c.in_ok-rows.rows in
    let query = select_tree c.in_ok-query.query in
    let answer = rows_answer db query (path_select (rooted_tree c.args.path.now)) c.rows_of-answer.result rows c.in_ok-rows.ensures.ok c.in_ok-query.ensures c.rows_of-answer.ensures.rows in
    single_cells db c.graph-graph.ensures.valid c.args.name.now (rooted_tree c.args.path.now) rows answer

pub returns-in_err-oid-clause-refused : goal.returns-in_err-oid-clause-refused
returns-in_err-oid-clause-refused g c =
    let db = c.args.store.now.db in
    let name = c.args.name.now in
    let path = rooted_tree c.args.path.now in
    let rows = c.in_ok-rows.rows in
    let query = select_tree c.in_ok-query.query in
    let answer = rows_answer db query (path_select (rooted_tree c.args.path.now)) c.rows_of-answer.result rows c.in_ok-rows.ensures.ok c.in_ok-query.ensures c.rows_of-answer.ensures.rows in
    let clear = rows_clear db query (path_select (rooted_tree c.args.path.now)) c.rows_of-answer.result rows c.in_ok-rows.ensures.ok c.in_ok-query.ensures c.rows_of-answer.ensures.ok in
    let stop = c.in_err-oid.field-0.0 in
    told_again (Cause db (bind name path)) cause_order c.from_residual-in_err-oid.result stop c.from_residual-in_err-oid.ensures.1
    (several_stop db c.graph-graph.ensures.valid name path rows answer clear stop c.in_err-oid.ensures.refused)

pub returns-clause-lists : goal.returns-clause-lists
returns-clause-lists g c =
    let db = c.args.store.now.db in
    let rows = c.in_ok-rows.rows in
    let query = select_tree c.in_ok-query.query in
    let answer = rows_answer db query (path_select (rooted_tree c.args.path.now)) c.rows_of-answer.result rows c.in_ok-rows.ensures.ok c.in_ok-query.ensures c.rows_of-answer.ensures.rows in
    let clear = rows_clear db query (path_select (rooted_tree c.args.path.now)) c.rows_of-answer.result rows c.in_ok-rows.ensures.ok c.in_ok-query.ensures c.rows_of-answer.ensures.ok in
    named_lists db c.graph-graph.ensures.valid c.args.name.now (rooted_tree c.args.path.now) rows answer clear c.in_ok-oid.oid c.in_ok-oid.ensures.one
    c.in_ok-naming.field-0 c.in_ok-naming.ensures
