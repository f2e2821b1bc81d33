use Rattle.std.proofs.Common.{◌≡◌, Some, sym, ap, subst}
use Rattle.std.specs.Prelude.{Contains}
use Rattle.live_views.specs.Views.{KeptRows}
use Rattle.lore_base.specs.Verdicts.{IsToldBy}
use Rattle.lorel_trees.specs.Trees.{select_tree, select, show}
use Rattle.statements.specs.Types.refusals
use Rattle.statements.specs.Statements.{Executes}
use Rattle.statements.specs.Stops.{told}
use Rattle.statements.specs.Uncounted.{IsQuietSelect}
use Rattle.statements.proofs.StopLaws.{told_again}
use Rattle.lore_db.proofs.PerformLaws.{on_reply_again, on_reply_none}
use Rattle.lore_db.specs.Types.{Rows}
use Rattle.lore_db.specs.States.{State, Kept, Performs, StateCause, state_order, CountsNoStep}
use Rattle.lore_db.specs.Freshness.{KeepsFresh}
use Rattle.lore_db.specs.inside.Kept.{kept_of}
use Rattle.lore_db.proofs.WatchLaws.{shown_lacks, shown_shallow, shown_there, shown_told, shown_quiet}
use Rattle.lore_db.proofs.WatchLaws.{shown_performs, shown_keeps, shown_are}
use Rattle.lore_db.proofs.db.Db.show_anew.Goals as goal

pub selected-requires : goal.selected-requires
selected-requires g c =
    shown_shallow c.self.inside.store.db c.self.inside.history c.self.inside.views c.self.invariant.views c.args.name.now c.in-Some.query.now
    c.in-Some.ensures

pub returns-in_err-answer-clause-refused : goal.returns-in_err-answer-clause-refused
returns-in_err-answer-clause-refused g c =
    let name = c.args.name.now in
    let stop = c.in_err-answer.field-0.0 in
    told_again (StateCause c.args.self.now.state (show name)) state_order c.from_residual.result stop
    c.from_residual.ensures.1
    (subst (λ (kept : Kept). IsToldBy (StateCause kept.state (show name)) state_order (told stop)) c.self.view_is
    (shown_told c.self.inside.store.db c.self.inside.history c.self.inside.views c.self.invariant.views name c.in-Some.query.now
    c.in-Some.ensures (told stop) c.in_err-answer.ensures.refused))

pub refresh-requires : goal.refresh-requires
refresh-requires g c =
    shown_there c.self.inside.store.db c.self.inside.history c.self.inside.views c.self.invariant.views c.args.name.now c.in-Some.query.now
    c.in-Some.ensures

pub returns-in_default-clause-refused : goal.returns-in_default-clause-refused
returns-in_default-clause-refused g c =
    let name = c.args.name.now in
    subst (λ (kept : Kept). IsToldBy (StateCause kept.state (show name)) state_order (Some refusals.UnknownView)) c.self.view_is
    (shown_lacks c.self.inside.store.db c.self.inside.history c.self.inside.views c.self.invariant.views name c.in_default.ensures)

pub invariant_of-self : goal.invariant_of-self
invariant_of-self g c = record {
  valid = c.self.invariant.valid;
  last = c.self.invariant.last;
  blocked = c.self.invariant.blocked;
  views = shown_are c.self.inside.store.db c.self.inside.history c.self.inside.views c.self.invariant.views c.args.name.now c.in-Some.query.now
      c.in-Some.ensures c.in_ok-copy.copy c.refresh.new.self c.refresh.ensures
      (subst (λ (rows : KeptRows). Executes c.self.inside.store.db (select (select_tree c.in-Some.query.now)) (Rows rows) c.self.inside.store.db)
      (sym c.in_ok-copy.ensures) c.in_ok-answer.ensures.ok);
}

pub returns-clause-ok : goal.returns-clause-ok
returns-clause-ok g c =
    let name = c.args.name.now in
    let db = c.self.inside.store.db in
    let history = c.self.inside.history in
    let query = select_tree c.in-Some.query.now in
    let later = c.refresh.new.self in
    let copy = c.in_ok-copy.copy in
    let after : State = (kept_of db history later).state in
    let same = sym c.in_ok-copy.ensures in
    let executed = subst (λ (rows : KeptRows). Executes db (select query) (Rows rows) db) same c.in_ok-answer.ensures.ok in
    subst (λ (kept : Kept). Performs kept.state (show name) (Rows c.in_ok-answer.answer) after) c.self.view_is
    (subst (λ (rows : KeptRows). Performs (kept_of db history c.self.inside.views).state (show name) (Rows rows) after) c.in_ok-copy.ensures
    (shown_performs db history c.self.inside.views c.self.invariant.views name c.in-Some.query.now c.in-Some.ensures copy later c.refresh.ensures executed))

pub returns-clause-fresh : goal.returns-clause-fresh
returns-clause-fresh g c =
    let name = c.args.name.now in
    let db = c.self.inside.store.db in
    let history = c.self.inside.history in
    let query = select_tree c.in-Some.query.now in
    let later = c.refresh.new.self in
    let copy = c.in_ok-copy.copy in
    let after = kept_of db history later in
    let same = sym c.in_ok-copy.ensures in
    let executed = subst (λ (rows : KeptRows). Executes db (select query) (Rows rows) db) same c.in_ok-answer.ensures.ok in
    subst (λ (kept : Kept). KeepsFresh kept (show name) (Rows c.in_ok-answer.answer) after) c.self.view_is
    (subst (λ (rows : KeptRows). KeepsFresh (kept_of db history c.self.inside.views) (show name) (Rows rows) after) c.in_ok-copy.ensures
    (shown_keeps db history c.self.inside.views c.self.invariant.views name c.in-Some.query.now c.in-Some.ensures copy later c.refresh.ensures executed))

pub returns-clause-uncounted : goal.returns-clause-uncounted
returns-clause-uncounted g c = λ counts_none.
    let name = c.args.name.now in
    let not_fresh = subst (λ (kept : Kept). Contains kept.fresh name → ⊥) (sym c.self.view_is) c.requires in
    let quiet = subst (λ (kept : Kept). CountsNoStep kept (show name)) (sym c.self.view_is) counts_none in
    c.in_ok-answer.ensures.quiet
    (shown_quiet c.self.inside.store.db c.self.inside.history c.self.inside.views c.self.invariant.views name c.in-Some.query.now c.in-Some.ensures
    not_fresh quiet)

pub returns-in_err-answer-clause-uncounted : goal.returns-in_err-answer-clause-uncounted
returns-in_err-answer-clause-uncounted g c =
    let name = c.args.name.now in
    let Same = c.selected.new.steps ≡ c.args.steps.now in
    let not_fresh = subst (λ (kept : Kept). Contains kept.fresh name → ⊥) (sym c.self.view_is) c.requires in
    on_reply_again c.from_residual.result c.in_err-answer.field-0.0 c.from_residual.ensures.1
    (IsQuietSelect c.self.inside.store.db (select_tree c.in-Some.query.now) → Same) (CountsNoStep c.args.self.now (show name) → Same)
    (λ h quiet. h
    (shown_quiet c.self.inside.store.db c.self.inside.history c.self.inside.views c.self.invariant.views name c.in-Some.query.now c.in-Some.ensures
    not_fresh (subst (λ (kept : Kept). CountsNoStep kept (show name)) (sym c.self.view_is) quiet))) c.in_err-answer.ensures.quiet

pub returns-in_err-copy-clause-uncounted : goal.returns-in_err-copy-clause-uncounted
returns-in_err-copy-clause-uncounted g c =
    on_reply_none c.from_residual-in_err-copy.result c.from_residual-in_err-copy.ensures.1
    (CountsNoStep c.args.self.now (show c.args.name.now) → c.selected.new.steps ≡ c.args.steps.now)

pub returns-clause-blocked : goal.returns-clause-blocked
returns-clause-blocked g c = ap (λ (kept : Kept). kept.blocked) c.self.view_is
