use Rattle.std.proofs.Common.{List, Some, sym, ap, subst, ◌∙◌}
use Rattle.live_views.specs.Views.{NamedView}
use Rattle.lore_base.specs.Verdicts.{IsToldBy}
use Rattle.lorel_trees.specs.Trees.{unwatch}
use Rattle.statements.specs.Types.refusals
use Rattle.lore_db.specs.States.{State, Kept, Performs, StateCause, state_order}
use Rattle.lore_db.specs.Freshness.{KeepsFresh}
use Rattle.lore_db.specs.inside.Kept.{kept_of, kept_with}
use Rattle.lore_db.proofs.WatchLaws.{unwatched_performs, unwatched_keeps, unwatched_are, unwatched_none, unwatched_lacks}
use Rattle.lore_db.proofs.db.Db.unwatch.Goals as goal

pub returns-then-not-take-clause-refused : goal.returns-then-not-take-clause-refused
returns-then-not-take-clause-refused c =
    let name = c.args.name.now in
    let db = c.self.inside.store.db in
    let views = c.self.inside.views in
    subst (λ (kept : Kept). IsToldBy (StateCause kept.state (unwatch name)) state_order (Some refusals.UnknownView)) c.self.view_is
    (unwatched_lacks db c.self.inside.history views c.self.invariant.views name (sym c.take.ensures.was ∙ c.if-not-take.true))

pub returns-then-not-take-clause-same : goal.returns-then-not-take-clause-same
returns-then-not-take-clause-same c =
    let db = c.self.inside.store.db in
    let history = c.self.inside.history in
    let views = c.self.inside.views in
    ap (λ (all : List NamedView). kept_with db history c.self.inside.blocks all)
    (unwatched_none db history views c.self.invariant.views c.args.name.now c.take.new.self c.take.ensures.gone
    (sym c.take.ensures.was ∙ c.if-not-take.true)) ∙ c.self.view_is

pub invariant_of-self : goal.invariant_of-self
invariant_of-self c = record {
  valid = c.self.invariant.valid;
  last = c.self.invariant.last;
  blocked = c.self.invariant.blocked;
  views = unwatched_are c.self.inside.store.db c.self.inside.history c.self.inside.views c.self.invariant.views c.args.name.now c.take.new.self
      c.take.ensures.gone;
}

pub invariant_of-self-2 : goal.invariant_of-self-2
invariant_of-self-2 c = record {
  valid = c.self.invariant.valid;
  last = c.self.invariant.last;
  blocked = c.self.invariant.blocked;
  views = unwatched_are c.self.inside.store.db c.self.inside.history c.self.inside.views c.self.invariant.views c.args.name.now c.take.new.self
      c.take.ensures.gone;
}

pub returns-clause-ok : goal.returns-clause-ok
returns-clause-ok c =
    let name = c.args.name.now in
    let db = c.self.inside.store.db in
    let history = c.self.inside.history in
    let after : State = (kept_of db history c.take.new.self).state in
    subst (λ (kept : Kept). Performs kept.state (unwatch name) c.counts.result after) c.self.view_is
    (unwatched_performs db history c.self.inside.views c.self.invariant.views name c.take.new.self c.take.ensures.gone c.counts.result c.counts.ensures
    (sym c.take.ensures.was ∙ c.if-not-take.false))

pub returns-clause-fresh : goal.returns-clause-fresh
returns-clause-fresh c =
    let name = c.args.name.now in
    let db = c.self.inside.store.db in
    let history = c.self.inside.history in
    subst (λ (kept : Kept). KeepsFresh kept (unwatch name) c.counts.result (kept_of db history c.take.new.self)) c.self.view_is
    (unwatched_keeps db history c.self.inside.views c.self.invariant.views name c.take.new.self c.take.ensures.gone c.counts.result)

pub returns-clause-blocked : goal.returns-clause-blocked
returns-clause-blocked c = ap (λ (kept : Kept). kept.blocked) c.self.view_is

pub returns-then-not-take-clause-blocked : goal.returns-then-not-take-clause-blocked
returns-then-not-take-clause-blocked c = ap (λ (kept : Kept). kept.blocked) c.self.view_is
