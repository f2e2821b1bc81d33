use Rattle.std.proofs.Common.{◌≡◌, None, refl, sym, subst}
use Rattle.std.specs.Prelude.{Contains}
use Rattle.std.proofs.lemmas.Result.{IfErr-weaker}
use Rattle.lore_base.specs.Verdicts.{IsToldBy}
use Rattle.lorel_trees.specs.Trees.{show}
use Rattle.statements.specs.Stops.{told}
use Rattle.lore_db.specs.Types.{Reply, Rows}
use Rattle.lore_db.specs.States.{Kept, StateCause, state_order, Performs, CountsNoStep}
use Rattle.lore_db.specs.Freshness.{KeepsFresh}
use Rattle.lore_db.proofs.PerformLaws.{on_reply_any, on_err_any}
use Rattle.lore_db.proofs.WatchLaws.{stale, fresh_performs, fresh_shown, replied_rows}
use Rattle.lore_db.proofs.db.Db.show.Goals as goal

pub returns-in-Some-clause-ok : goal.returns-in-Some-clause-ok
returns-in-Some-clause-ok g c =
    let name = c.args.name.now in
    let performs = fresh_performs c.self.inside.store.db c.self.inside.history c.self.inside.views c.self.invariant.views name c.in-Some.rows.now
    c.in-Some.ensures in
    replied_rows c.copied.result c.in-Some.rows.now c.copied.ensures.ok (λ (reply : Reply). Performs c.args.self.now.state (show name) reply c.args.self.now.state)
    (subst (λ (kept : Kept). Performs kept.state (show name) (Rows c.in-Some.rows.now) kept.state) c.self.view_is performs)

pub returns-in-Some-clause-fresh : goal.returns-in-Some-clause-fresh
returns-in-Some-clause-fresh g c =
    let name = c.args.name.now in
    let keeps = fresh_shown c.self.inside.store.db c.self.inside.history c.self.inside.views c.self.invariant.views name c.in-Some.rows.now
    c.in-Some.ensures in
    replied_rows c.copied.result c.in-Some.rows.now c.copied.ensures.ok (λ (reply : Reply). KeepsFresh c.args.self.now (show name) reply c.args.self.now)
    (subst (λ (kept : Kept). KeepsFresh kept (show name) (Rows c.in-Some.rows.now) kept) c.self.view_is keeps)

pub show_anew-requires : goal.show_anew-requires
show_anew-requires g c =
    let name = c.args.name.now in
    subst (λ (kept : Kept). Contains kept.fresh name → ⊥) c.self.view_is
    (stale c.self.inside.views c.self.invariant.views.ascend name c.in-None.ensures)

pub returns-in-Some-clause-uncounted : goal.returns-in-Some-clause-uncounted
returns-in-Some-clause-uncounted g c =
    on_reply_any c.copied.result (CountsNoStep c.args.self.now (show c.args.name.now) → c.args.steps.now ≡ c.args.steps.now) (λ quiet. refl)

pub returns-in-Some-clause-refused : goal.returns-in-Some-clause-refused
returns-in-Some-clause-refused g c =
    let cause = StateCause c.args.self.now.state (show c.args.name.now) in
    IfErr-weaker c.copied.result (λ stop. told stop ≡ None) (λ stop. IsToldBy cause state_order (told stop))
    (λ stop none. subst (IsToldBy cause state_order) (sym none) tt) c.copied.ensures.refused

pub returns-in-Some-clause-same : goal.returns-in-Some-clause-same
returns-in-Some-clause-same g c = on_err_any c.copied.result (c.args.self.now ≡ c.args.self.now) refl
