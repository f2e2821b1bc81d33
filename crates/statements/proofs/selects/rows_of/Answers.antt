use Rattle.std.proofs.Common.{◌≡◌}
use Rattle.std.specs.Prelude.{IfSome}
use Rattle.std.proofs.lemmas.Result.{IfOk-weaker, IfErr-weaker}
use Rattle.lore_base.specs.Verdicts.{IsClear, IsToldBy}
use Rattle.lorel_trees.specs.Trees.{select_tree}
use Rattle.lorel_bind.specs.Answers.{IsAnswer}
use Rattle.lorel_bound.specs.Bound.{bound_tree}
use Rattle.lorel_bound.specs.SlotRows.{IsSlotRow}
use Rattle.answers.specs.Asked.{AreRows, AreTooMany}
use Rattle.statements.specs.Types.refusals
use Rattle.statements.specs.Uncounted.{IsQuietBound, IsQuietSelect}
use Rattle.statements.specs.Stops.{told}
use Rattle.statements.specs.inside.Stages.{ReadCause, read_order}
use Rattle.statements.proofs.SelectLaws.{rows_answer, rows_clear, rows_told}
use Rattle.statements.proofs.StopLaws.{on_reply_weaker}
use Rattle.statements.proofs.QuietPlanLaws.{bound_quiet}
use Rattle.statements.proofs.selects.rows_of.Goals as goal

pub returns-clause-rows : goal.returns-clause-rows
returns-clause-rows g c =
    let db = c.args.store.now.db in
    let query = select_tree c.args.query.now in
    let tree = bound_tree c.in_ok-bound.bound in
    IfOk-weaker c.found-found.result (AreRows (IsSlotRow db tree)) (IsAnswer db query) (rows_answer db query tree c.in_ok-bound.ensures.binding)
    c.found-found.ensures.rows

pub returns-clause-ok : goal.returns-clause-ok
returns-clause-ok g c =
    let db = c.args.store.now.db in
    let query = select_tree c.args.query.now in
    let tree = bound_tree c.in_ok-bound.bound in
    IfOk-weaker c.found-found.result (AreRows (IsSlotRow db tree)) (λ answer. IsClear (ReadCause db query) read_order)
    (rows_clear db query tree c.in_ok-bound.ensures.binding c.in_ok-bound.ensures.ok) c.found-found.ensures.rows

pub returns-clause-refused : goal.returns-clause-refused
returns-clause-refused g c =
    let db = c.args.store.now.db in
    let query = select_tree c.args.query.now in
    let tree = bound_tree c.in_ok-bound.bound in
    IfErr-weaker c.found-found.result
    (λ stop. IfSome (told stop) (λ refusal. (refusal ≡ refusals.TooManyRows) × AreTooMany (IsSlotRow db tree)))
    (λ stop. IsToldBy (ReadCause db query) read_order (told stop))
    (λ stop h. rows_told db query tree c.in_ok-bound.ensures.binding c.in_ok-bound.ensures.ok (told stop) h) c.found-found.ensures.refused

pub returns-clause-quiet : goal.returns-clause-quiet
returns-clause-quiet g c =
    let db = c.args.store.now.db in
    let query = select_tree c.args.query.now in
    let tree = bound_tree c.in_ok-bound.bound in
    on_reply_weaker c.found-found.result (IsQuietBound db tree → c.found-found.new.steps ≡ c.args.steps.now)
    (IsQuietSelect db query → c.found-found.new.steps ≡ c.args.steps.now)
    (λ same quiet. same (bound_quiet db query tree c.in_ok-bound.ensures.binding quiet)) c.found-found.ensures.quiet
