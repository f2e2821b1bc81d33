use Rattle.std.proofs.Common.{◌≡◌, List, Some, true≢false, sym, ap, subst, ◌∙◌}
use Rattle.lorel_ranges.specs.Texts.{IsShallow}
use Rattle.lore_base.specs.Verdicts.{IsToldBy}
use Rattle.live_views.specs.Views.{NamedView}
use Rattle.view_laws.specs.Freshness.{AreViewsOf}
use Rattle.lorel_trees.specs.Trees.{select_tree, watch}
use Rattle.statements.specs.Types.refusals
use Rattle.statements.specs.Stops.{told}
use Rattle.statements.proofs.ShallowLaws.{watch_listed}
use Rattle.statements.specs.Uncounted.{IsQuietSelect}
use Rattle.statements.proofs.StopLaws.{told_again}
use Rattle.lore_db.proofs.PerformLaws.{on_reply_again, on_reply_none, on_err_any}
use Rattle.lore_db.specs.States.{State, Kept, Performs, StateCause, state_order, CountsNoStep}
use Rattle.lore_db.specs.Freshness.{KeepsFresh}
use Rattle.lore_db.specs.inside.Kept.{kept_of, kept_with}
use Rattle.lore_db.proofs.ViewingLaws.{watch_told, watch_many}
use Rattle.lore_db.proofs.KeptLaws.{too_many}
use Rattle.lore_db.proofs.WatchLaws.{watched_performs, watched_keeps, watched_are}
use Rattle.lore_db.proofs.db.Db.watch.Goals as goal

pub selected-requires : goal.selected-requires
selected-requires g c = (watch_listed c.args.name.now (select_tree c.args.query.now) c.requires).0

pub returns-in_err-answer-clause-refused : goal.returns-in_err-answer-clause-refused
returns-in_err-answer-clause-refused g c =
    let name = c.args.name.now in
    let query = select_tree c.args.query.now in
    let stop = c.in_err-answer.field-0.0 in
    let before : State = (kept_of c.self.inside.store.db c.self.inside.history c.self.inside.views).state in
    told_again (StateCause c.args.self.now.state (watch name query)) state_order c.from_residual.result stop c.from_residual.ensures.1
    (subst (λ (kept : Kept). IsToldBy (StateCause kept.state (watch name query)) state_order (told stop)) c.self.view_is
    (watch_told before name query (told stop) c.in_err-answer.ensures.refused))

pub returns-then-is_one_too_many-clause-refused : goal.returns-then-is_one_too_many-clause-refused
returns-then-is_one_too_many-clause-refused g c =
    let name = c.args.name.now in
    let query = select_tree c.args.query.now in
    let db = c.self.inside.store.db in
    let views = c.self.inside.views in
    let before : State = (kept_of db c.self.inside.history views).state in
    let many = (too_many db c.self.inside.history views name query).0 (c.is_one_too_many.ensures.0 c.if-is_one_too_many.true) in
    subst (λ (kept : Kept). IsToldBy (StateCause kept.state (watch name query)) state_order (Some refusals.TooManyViews)) c.self.view_is
    (watch_many before name query c.in_ok-answer.answer c.in_ok-answer.ensures.ok many)

pub put-requires : goal.put-requires
put-requires g c =
    let listed = watch_listed c.args.name.now (select_tree c.args.query.now) c.requires in
    record { shallow = subst IsShallow (sym c.in_ok-own_query.ensures) listed.0 }

pub invariant_of-self : goal.invariant_of-self
invariant_of-self g c = record {
  valid = c.self.invariant.valid;
  last = c.self.invariant.last;
  blocked = c.self.invariant.blocked;
  views = subst (AreViewsOf c.self.inside.store.db) (sym c.in_err-put.ensures.err) c.self.invariant.views;
}

pub invariant_of-self-2 : goal.invariant_of-self-2
invariant_of-self-2 g c =
    let name = c.args.name.now in
    let query = select_tree c.args.query.now in
    let listed = watch_listed name query c.requires in
    record {
      valid = c.self.invariant.valid;
      last = c.self.invariant.last;
      blocked = c.self.invariant.blocked;
      views = watched_are c.self.inside.store.db c.self.inside.history c.self.inside.views c.self.invariant.views name c.in_ok-own_name.own_name query
          c.in_ok-own_query.own_query c.in_ok-answer.answer c.put.new.self c.in_ok-own_name.ensures c.in_ok-own_query.ensures c.in_ok-put.ensures.ok
          c.in_ok-answer.ensures.ok c.self.invariant.valid listed.0 listed.1;
    }

pub returns-clause-ok : goal.returns-clause-ok
returns-clause-ok g c =
    let name = c.args.name.now in
    let query = select_tree c.args.query.now in
    let db = c.self.inside.store.db in
    let history = c.self.inside.history in
    let views = c.self.inside.views in
    let after : State = (kept_of db history c.put.new.self).state in
    subst (λ (kept : Kept). Performs kept.state (watch name query) c.counts.result after) c.self.view_is
    (watched_performs db history views c.self.invariant.views name c.in_ok-own_name.own_name query c.in_ok-own_query.own_query c.in_ok-answer.answer
    c.put.new.self c.in_ok-own_name.ensures c.in_ok-own_query.ensures c.in_ok-put.ensures.ok c.in_ok-answer.ensures.ok c.counts.result c.counts.ensures
    (λ many. true≢false (sym (c.is_one_too_many.ensures.1 ((too_many db history views name query).1 many)) ∙ c.if-is_one_too_many.false)))

pub returns-clause-fresh : goal.returns-clause-fresh
returns-clause-fresh g c =
    let name = c.args.name.now in
    let query = select_tree c.args.query.now in
    let db = c.self.inside.store.db in
    let history = c.self.inside.history in
    let views = c.self.inside.views in
    subst (λ (kept : Kept). KeepsFresh kept (watch name query) c.counts.result (kept_of db history c.put.new.self)) c.self.view_is
    (watched_keeps db history views c.self.invariant.views name c.in_ok-own_name.own_name query c.in_ok-own_query.own_query c.in_ok-answer.answer
    c.put.new.self c.in_ok-own_name.ensures c.in_ok-own_query.ensures c.in_ok-put.ensures.ok c.in_ok-answer.ensures.ok c.counts.result c.counts.ensures)

pub returns-in_err-answer-clause-uncounted : goal.returns-in_err-answer-clause-uncounted
returns-in_err-answer-clause-uncounted g c =
    let asked = watch c.args.name.now (select_tree c.args.query.now) in
    let Same = c.selected.new.steps ≡ c.args.steps.now in
    on_reply_again c.from_residual.result c.in_err-answer.field-0.0 c.from_residual.ensures.1
    (IsQuietSelect c.self.inside.store.db (select_tree c.args.query.now) → Same) (CountsNoStep c.args.self.now asked → Same)
    (λ h quiet. h (subst (λ (kept : Kept). CountsNoStep kept asked) (sym c.self.view_is) quiet)) c.in_err-answer.ensures.quiet

pub returns-then-is_one_too_many-clause-uncounted : goal.returns-then-is_one_too_many-clause-uncounted
returns-then-is_one_too_many-clause-uncounted g c = λ quiet.
    c.in_ok-answer.ensures.quiet
    (subst (λ (kept : Kept). CountsNoStep kept (watch c.args.name.now (select_tree c.args.query.now))) (sym c.self.view_is) quiet)

pub returns-in_err-own_name-clause-uncounted : goal.returns-in_err-own_name-clause-uncounted
returns-in_err-own_name-clause-uncounted g c =
    on_reply_none c.from_residual-in_err-own_name.result c.from_residual-in_err-own_name.ensures.1
    (CountsNoStep c.args.self.now (watch c.args.name.now (select_tree c.args.query.now)) → c.selected.new.steps ≡ c.args.steps.now)

pub returns-in_err-own_query-clause-uncounted : goal.returns-in_err-own_query-clause-uncounted
returns-in_err-own_query-clause-uncounted g c =
    on_reply_none c.from_residual-in_err-own_query.result c.from_residual-in_err-own_query.ensures.1
    (CountsNoStep c.args.self.now (watch c.args.name.now (select_tree c.args.query.now)) → c.selected.new.steps ≡ c.args.steps.now)

pub returns-in_err-put-clause-uncounted : goal.returns-in_err-put-clause-uncounted
returns-in_err-put-clause-uncounted g c =
    on_reply_none c.from_residual-in_err-put.result c.from_residual-in_err-put.ensures.1
    (CountsNoStep c.args.self.now (watch c.args.name.now (select_tree c.args.query.now)) → c.selected.new.steps ≡ c.args.steps.now)

-- nothing is put
pub returns-in_err-put-clause-same : goal.returns-in_err-put-clause-same
returns-in_err-put-clause-same g c =
    let db = c.self.inside.store.db in
    let history = c.self.inside.history in
    let blocks = c.self.inside.blocks in
    on_err_any c.from_residual-in_err-put.result (kept_with db history blocks c.put.new.self ≡ c.args.self.now)
    (ap (λ (all : List NamedView). kept_with db history blocks all) c.in_err-put.ensures.err ∙ c.self.view_is)

pub returns-in_err-put-clause-blocked : goal.returns-in_err-put-clause-blocked
returns-in_err-put-clause-blocked g c = ap (λ (kept : Kept). kept.blocked) c.self.view_is

pub returns-clause-uncounted : goal.returns-clause-uncounted
returns-clause-uncounted g c = λ quiet.
    c.in_ok-answer.ensures.quiet
    (subst (λ (kept : Kept). CountsNoStep kept (watch c.args.name.now (select_tree c.args.query.now))) (sym c.self.view_is) quiet)

pub returns-clause-blocked : goal.returns-clause-blocked
returns-clause-blocked g c = ap (λ (kept : Kept). kept.blocked) c.self.view_is
