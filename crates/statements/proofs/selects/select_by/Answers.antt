use Rattle.std.proofs.Common.{◌≡◌, ◌∷◌, []}
use Rattle.std.specs.Prelude.{IfSome}
use Rattle.std.proofs.lemmas.Result.{IfOk-weaker, IfErr-weaker}
use Rattle.lore_base.specs.Verdicts.{IsToldBy}
use Rattle.lorel_trees.specs.Trees.{select_tree, blocks_of}
use Rattle.lorel_bound.specs.Bound.{bound_tree}
use Rattle.lorel_bound.specs.SlotRows.{IsSlotRow}
use Rattle.answers.specs.Asked.{AreRows, AreTooMany}
use Rattle.statements.specs.Types.{Rows}
use Rattle.statements.specs.Types.refusals
use Rattle.statements.specs.Statements.{Cause, cause_order, Executes}
use Rattle.statements.specs.Stops.{told}
use Rattle.statements.specs.Uncounted.{IsPlain, IsPlainSelect}
use Rattle.statements.specs.inside.Stages.{ReadCause, bind_order}
use Rattle.statements.proofs.ExecutionLaws.{blocks_performs, blocks_told}
use Rattle.statements.proofs.OrderLaws.{told_left}
use Rattle.statements.proofs.QuietPlanLaws.{bound_plain}
use Rattle.statements.proofs.SelectLaws.{rows_answer, rows_clear, rows_told}
use Rattle.statements.proofs.StopLaws.{told_again, on_reply_weaker}
use Rattle.statements.proofs.selects.select_by.Goals as goal

pub returns-in_err-bound-clause-refused : goal.returns-in_err-bound-clause-refused
returns-in_err-bound-clause-refused g c =
    let db = c.args.store.now.db in
    let query = select_tree c.args.query.now in
    let stop = c.in_err-bound.field-0.0 in
    told_again (Cause db (blocks_of query)) cause_order c.from_residual.result stop c.from_residual.ensures.1
    (blocks_told db query (told stop) (told_left (ReadCause db query) bind_order (refusals.TooManyRows ∷ []) (told stop) c.in_err-bound.ensures.refused))

pub returns-clause-ok : goal.returns-clause-ok
returns-clause-ok g c =
    let db = c.args.store.now.db in
    let query = select_tree c.args.query.now in
    let tree = bound_tree c.in_ok-bound.bound in
    let binds = c.in_ok-bound.ensures.binding in
    IfOk-weaker c.found_by-found.result (AreRows (IsSlotRow db tree)) (λ answer. Executes db (blocks_of query) (Rows answer) db)
    (λ rows own. blocks_performs db query rows (rows_clear db query tree binds c.in_ok-bound.ensures.ok rows own) (rows_answer db query tree binds rows own))
    c.found_by-found.ensures.rows

pub returns-clause-refused : goal.returns-clause-refused
returns-clause-refused g c =
    let db = c.args.store.now.db in
    let query = select_tree c.args.query.now in
    let tree = bound_tree c.in_ok-bound.bound in
    IfErr-weaker c.found_by-found.result
    (λ stop. IfSome (told stop) (λ refusal. (refusal ≡ refusals.TooManyRows) × AreTooMany (IsSlotRow db tree)))
    (λ stop. IsToldBy (Cause db (blocks_of query)) cause_order (told stop))
    (λ stop h. blocks_told db query (told stop) (rows_told db query tree c.in_ok-bound.ensures.binding c.in_ok-bound.ensures.ok (told stop) h))
    c.found_by-found.ensures.refused

pub returns-clause-quiet : goal.returns-clause-quiet
returns-clause-quiet g c =
    let db = c.args.store.now.db in
    let query = select_tree c.args.query.now in
    let tree = bound_tree c.in_ok-bound.bound in
    on_reply_weaker c.found_by-found.result (IsPlain tree → c.found_by-found.new.steps ≡ c.args.steps.now)
    (IsPlainSelect db query → c.found_by-found.new.steps ≡ c.args.steps.now)
    (λ same plain. same (bound_plain db query tree c.in_ok-bound.ensures.binding plain)) c.found_by-found.ensures.quiet
