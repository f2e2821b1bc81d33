use Rattle.std.proofs.Common.{[], ◌∷◌, List, Some, refl, sym, ap, subst}
use Rattle.std.specs.Prelude.{true}
use Rattle.lore_base.specs.Verdicts.{IsToldBy}
use Rattle.lorel_trees.specs.Trees.{history}
use Rattle.doem_history.specs.Moments.{Moment, IsFull}
use Rattle.doem_history.specs.Histories.{moments_of}
use Rattle.statements.specs.Stops.{told}
use Rattle.statements.proofs.StopLaws.{told_again}
use Rattle.lore_db.specs.States.{State, Kept, present, StateCause, state_order, Performs}
use Rattle.view_laws.specs.Freshness.{queries_of}
use Rattle.lore_db.specs.Freshness.{KeepsFresh}
use Rattle.lore_db.specs.inside.Kept.{kept_of}
use Rattle.lore_db.proofs.KeptLaws.{same_keeps}
use Rattle.kept_history.proofs.MomentLaws.{last_is}
use Rattle.lore_db.proofs.PerformLaws.{full_told, begins, begins_full}
use Rattle.lore_db.proofs.db.Db.begin.Goals as goal

pub returns-in_err-history-clause-refused : goal.returns-in_err-history-clause-refused
returns-in_err-history-clause-refused g c =
    let stop = c.in_err-history.field-0.0 in
    let db = c.self.inside.store.db in
    let before : State = (kept_of c.self.inside.store.db c.self.inside.history c.self.inside.views).state in
    told_again (StateCause c.args.self.now.state (history true)) state_order c.from_residual.result stop c.from_residual.ensures.1
    (subst (λ (kept : Kept). IsToldBy (StateCause kept.state (history true)) state_order (told stop)) c.self.view_is
    (full_told (StateCause before (history true)) state_order (IsFull (present db ∷ [])) (begins_full before) (told stop) c.in_err-history.ensures.refused))

pub invariant_of-self : goal.invariant_of-self
invariant_of-self g c = record {
  valid = c.self.invariant.valid;
  last = last_is c.in_ok-history.history [] (present c.self.inside.store.db) c.in_ok-history.ensures.ok;
  blocked = c.self.invariant.blocked;
  views = c.self.invariant.views;
}

pub returns-clause-ok : goal.returns-clause-ok
returns-clause-ok g c =
    let db = c.self.inside.store.db in
    let reply = c.counts.result in
    let before : State = (kept_of c.self.inside.store.db c.self.inside.history c.self.inside.views).state in
    let after : List Moment → State = λ moments. record { db = db; history = Some moments; views = queries_of c.self.inside.views } in
    let done = begins before reply c.counts.ensures c.in_ok-history.ensures.light in
    subst (λ (kept : Kept). Performs kept.state (history true) reply (after (moments_of c.in_ok-history.history))) c.self.view_is
    (subst (λ (moments : List Moment). Performs before (history true) reply (after moments)) (sym c.in_ok-history.ensures.ok) done)

pub returns-clause-fresh : goal.returns-clause-fresh
returns-clause-fresh g c =
    let db = c.self.inside.store.db in
    let views = c.self.inside.views in
    let later = Some c.in_ok-history.history in
    subst (λ (kept : Kept). KeepsFresh kept (history true) c.counts.result (kept_of db later views)) c.self.view_is
    (same_keeps db db c.self.inside.history later views (history true) c.counts.result (λ name is. is) refl)

pub returns-clause-blocked : goal.returns-clause-blocked
returns-clause-blocked g c = ap (λ (kept : Kept). kept.blocked) c.self.view_is
