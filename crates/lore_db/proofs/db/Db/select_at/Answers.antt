use Rattle.std.proofs.Common.{◌≡◌, refl, sym, subst, ◌∙◌}
use Rattle.std.specs.Prelude.{ℤ}
use Rattle.std.specs.Int.{w64}
use Rattle.std.proofs.lemmas.Int.{to_z-of_z}
use Rattle.lore_base.specs.Databases.{Database}
use Rattle.lore_base.specs.Verdicts.{IsToldBy}
use Rattle.lorel_trees.specs.Trees.{select_tree, select, select_at}
use Rattle.doem_history.specs.Histories.{moment_at, moments_of}
use Rattle.statements.specs.Statements.{Cause, cause_order, Executes}
use Rattle.statements.specs.Stops.{told}
use Rattle.statements.proofs.StopLaws.{told_again}
use Rattle.lore_db.specs.Types.{Rows}
use Rattle.lore_db.specs.States.{Kept, HasMoment, database_at, StateCause, state_order, CountsNoStep}
use Rattle.lore_db.proofs.MomentLaws.{is_moment, no_moment}
use Rattle.lore_db.proofs.AskLaws.{asked_beyond, at_counts, at_told, at_performs, then_is}
use Rattle.lore_db.proofs.PerformLaws.{on_reply_any}
use Rattle.lore_db.proofs.db.Db.select_at.Goals as goal

pub returns-in_default-clause-refused : goal.returns-in_default-clause-refused
returns-in_default-clause-refused g c =
    let h = c.in_ok-history.history.now in
    let same = to_z-of_z w64 c.args.moment c.ranges.moment in
    asked_beyond c.args.self.now.state (moments_of h) c.in_ok-history.ensures.ok (select_at c.args.moment (select_tree c.args.query.now))
    (subst (λ (n : ℤ). HasMoment (moments_of h) n → ⊥) same (no_moment h _ c.in_default.ensures.none))

pub returns-in_err-history-clause-uncounted : goal.returns-in_err-history-clause-uncounted
returns-in_err-history-clause-uncounted g c =
    on_reply_any c.from_residual.result
    (CountsNoStep c.args.self.now (select_at c.args.moment (select_tree c.args.query.now)) → c.args.steps.now ≡ c.args.steps.now) (λ quiet. refl)

pub returns-in_err-names-clause-uncounted : goal.returns-in_err-names-clause-uncounted
returns-in_err-names-clause-uncounted g c =
    on_reply_any c.from_residual-in_err-names.result
    (CountsNoStep c.args.self.now (select_at c.args.moment (select_tree c.args.query.now)) → c.args.steps.now ≡ c.args.steps.now) (λ quiet. refl)

pub returns-in_err-answer-clause-refused : goal.returns-in_err-answer-clause-refused
returns-in_err-answer-clause-refused g c =
    let h = c.in_ok-history.history.now in
    let query = select_tree c.args.query.now in
    let same = to_z-of_z w64 c.args.moment c.ranges.moment in
    let number = c.in-Some.moment in
    let some = c.in-Some.ensures.some in
    let moment = moment_at h number in
    let is = is_moment h c.args.moment number (sym same ∙ some.0) some.1 in
    let past = then_is c.self.inside.store.db moment c.view-view.result c.in_ok-names.names c.in_ok-names.ensures c.view-view.ensures.moment in
    let stop = c.in_err-answer.field-0.0 in
    let then = subst (λ (d : Database). IsToldBy (Cause d (select query)) cause_order (told stop)) past c.in_err-answer.ensures.refused in
    told_again (StateCause c.args.self.now.state (select_at c.args.moment query)) state_order c.from_residual-in_err-answer.result stop
    c.from_residual-in_err-answer.ensures.1
    (at_told c.args.self.now.state (moments_of h) c.in_ok-history.ensures.ok c.args.moment query number moment is (told stop)
    (subst (λ (k : Kept). IsToldBy (Cause (database_at k.state.db moment) (select query)) cause_order (told stop)) c.self.view_is then))

pub returns-clause-ok : goal.returns-clause-ok
returns-clause-ok g c =
    let h = c.in_ok-history.history.now in
    let query = select_tree c.args.query.now in
    let same = to_z-of_z w64 c.args.moment c.ranges.moment in
    let number = c.in-Some.moment in
    let some = c.in-Some.ensures.some in
    let moment = moment_at h number in
    let is = is_moment h c.args.moment number (sym same ∙ some.0) some.1 in
    let past = then_is c.self.inside.store.db moment c.view-view.result c.in_ok-names.names c.in_ok-names.ensures c.view-view.ensures.moment in
    let rows = c.in_ok-answer.answer in
    let then = subst (λ (d : Database). Executes d (select query) (Rows rows) d) past c.in_ok-answer.ensures.ok in
    at_performs c.args.self.now.state (moments_of h) c.in_ok-history.ensures.ok c.args.moment query number moment is rows
    (subst (λ (k : Kept). Executes (database_at k.state.db moment) (select query) (Rows rows) (database_at k.state.db moment)) c.self.view_is then)

pub returns-in_err-answer-clause-uncounted : goal.returns-in_err-answer-clause-uncounted
returns-in_err-answer-clause-uncounted g c =
    let h = c.in_ok-history.history.now in
    let query = select_tree c.args.query.now in
    let same = to_z-of_z w64 c.args.moment c.ranges.moment in
    let number = c.in-Some.moment in
    let some = c.in-Some.ensures.some in
    let is = is_moment h c.args.moment number (sym same ∙ some.0) some.1 in
    on_reply_any c.from_residual-in_err-answer.result
    (CountsNoStep c.args.self.now (select_at c.args.moment query) → c.select_over.new.steps ≡ c.args.steps.now)
    (λ quiet. absurd (at_counts c.args.self.now.state (moments_of h) c.in_ok-history.ensures.ok c.args.moment query number (moment_at h number) is c.args.self.now.blocked c.args.self.now.fresh quiet))

pub returns-clause-uncounted : goal.returns-clause-uncounted
returns-clause-uncounted g c = λ quiet.
    let h = c.in_ok-history.history.now in
    let query = select_tree c.args.query.now in
    let same = to_z-of_z w64 c.args.moment c.ranges.moment in
    let number = c.in-Some.moment in
    let some = c.in-Some.ensures.some in
    let is = is_moment h c.args.moment number (sym same ∙ some.0) some.1 in
    absurd (at_counts c.args.self.now.state (moments_of h) c.in_ok-history.ensures.ok c.args.moment query number (moment_at h number) is c.args.self.now.blocked c.args.self.now.fresh quiet)
