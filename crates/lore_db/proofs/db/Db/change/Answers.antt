use Rattle.std.proofs.Common.{◌≡◌, List, Option, None, sym, subst, ◌∙◌}
use Rattle.std.specs.Prelude.{Contains, IfSome, IfErr, is_some}
use Rattle.lore_base.specs.Databases.{Database, IsValid, AreAscendingObjects}
use Rattle.lore_base.specs.Verdicts.{IsToldBy}
use Rattle.lore_store.specs.Stores.{database_then}
use Rattle.lorel_trees.specs.Trees.{statement_tree}
use Rattle.one_index.specs.declared.blocks.Block.{Block}
use Rattle.live_views.specs.Types.{Delta}
use Rattle.view_laws.specs.Freshness.{queries_of, fresh_of, AreViewsOf}
use Rattle.view_laws.proofs.KeptViewLaws.{turned_queries}
use Rattle.statements.specs.Blocks.{AreBlocksIn}
use Rattle.statements.specs.Stops.{told}
use Rattle.statements.proofs.StopLaws.{told_on, told_again}
use Rattle.lore_db.specs.States.{State, Kept, present, Performs, StateCause, state_order, CountsNoStep, blocked_then}
use Rattle.lore_db.specs.Freshness.{KeepsFresh}
use Rattle.lore_db.specs.inside.Kept.{kept_of, kept_with, IsFullWith}
use Rattle.lore_db.proofs.StateLaws.{changing_plain}
use Rattle.lore_db.proofs.PerformLaws.{changing_told, changing_quiet, change_done, change_refused, on_err_any}
use Rattle.lore_db.proofs.BoundLaws.{StopsWithin, Within, planned_again, none_within, made_within, full_within}
use Rattle.lore_db.proofs.BlockedLaws.{changed_blocked}
use Rattle.lore_db.proofs.KeptLaws.{changed_views, changed_keeps, made_next, plain_unanswered}
use Rattle.lore_db.proofs.db.Db.change.Goals as goal

pub returns-in_err-plan-clause-refused : goal.returns-in_err-plan-clause-refused
returns-in_err-plan-clause-refused g c =
    let tree = statement_tree c.args.statement.now in
    let stop = c.in_err-plan.field-0.0 in
    let before : State = (kept_of c.self.inside.store.db c.self.inside.history c.self.inside.views).state in
    told_again (StateCause c.args.self.now.state tree) state_order c.from_residual.result stop c.from_residual.ensures.1
    (subst (λ (kept : Kept). IsToldBy (StateCause kept.state tree) state_order (told stop)) c.self.view_is
    (changing_told before tree c.requires.changing (told stop) c.in_err-plan.ensures.refused))

pub returns-in_err-plan-clause-stopped : goal.returns-in_err-plan-clause-stopped
returns-in_err-plan-clause-stopped g c =
    let tree = statement_tree c.args.statement.now in
    let before : State = (kept_of c.self.inside.store.db c.self.inside.history c.self.inside.views).state in
    subst (λ (kept : Kept). IfErr c.from_residual.result (StopsWithin kept.state tree c.args.steps.now c.planned.new.steps)) c.self.view_is
    (planned_again before tree c.args.steps.now c.planned.new.steps c.from_residual.result c.in_err-plan.field-0.0 c.from_residual.ensures.1
    c.in_err-plan.ensures.stopped)

pub marks-requires : goal.marks-requires
marks-requires g c =
    let ascend = c.in_ok-plan.ensures.delta.objects_ascend in
    let same = sym c.delta.ensures in
    record {
      gone = subst (λ (d : Delta). AreAscendingObjects d.objects_gone) same ascend.0;
      come = subst (λ (d : Delta). AreAscendingObjects d.objects_come) same ascend.1;
    }

pub returns-in_err-reply-clause-refused : goal.returns-in_err-reply-clause-refused
returns-in_err-reply-clause-refused g c =
    let tree = statement_tree c.args.statement.now in
    let db = c.self.inside.store.db in
    let stop = c.in_err-reply.field-0.0 in
    let views = queries_of c.self.inside.views in
    told_again (StateCause c.args.self.now.state tree) state_order c.from_residual-in_err-reply.result stop c.from_residual-in_err-reply.ensures.1
    (subst (λ (kept : Kept). IsToldBy (StateCause kept.state tree) state_order (told stop)) c.self.view_is
    (change_refused db c.self.inside.history views tree c.requires.changing (database_then db c.in_ok-plan.plan.prepared) c.in_ok-plan.ensures.made
    stop c.in_err-reply.ensures.refused))

pub returns-in_err-reply-clause-stopped : goal.returns-in_err-reply-clause-stopped
returns-in_err-reply-clause-stopped g c =
    let tree = statement_tree c.args.statement.now in
    let before : State = (kept_of c.self.inside.store.db c.self.inside.history c.self.inside.views).state in
    let result = c.from_residual-in_err-reply.result in
    subst (λ (kept : Kept). IfErr result (StopsWithin kept.state tree c.args.steps.now c.planned.new.steps)) c.self.view_is
    (full_within before tree c.args.steps.now c.planned.new.steps c.in_ok-plan.ensures.bounded
    (IsFullWith c.self.inside.history (present (database_then c.self.inside.store.db c.in_ok-plan.plan.prepared))) result c.in_err-reply.field-0.0
    c.from_residual-in_err-reply.ensures.1 c.in_err-reply.ensures.refused)

-- nothing is made
pub returns-in_err-reply-clause-same : goal.returns-in_err-reply-clause-same
returns-in_err-reply-clause-same g c =
    let same = c.in_err-reply.ensures.same in
    let moments = c.in_err-reply.ensures.same_moments in
    let blocks = c.in_err-reply.ensures.same_blocks in
    let views = c.self.inside.views in
    let left : Kept = kept_with c.make.new.store.db c.make.new.history c.make.new.blocks views in
    let stays : left ≡ c.args.self.now =
    (λ i.
    let kept : Kept = record {
      state = record { db = same i; history = moments i; views = queries_of views };
      blocked = is_some (blocks i);
      fresh = fresh_of views;
    } in
    kept)
    ∙ c.self.view_is in
    on_err_any c.from_residual-in_err-reply.result (left ≡ c.args.self.now) stays

pub invariant_of-self : goal.invariant_of-self
invariant_of-self g c =
    let same = sym c.in_err-reply.ensures.same in
    record {
      valid = subst IsValid same c.self.invariant.valid;
      last = c.in_err-reply.ensures.same_last;
      blocked = subst (λ (o : Option (List Block)). IfSome o (AreBlocksIn c.make.new.store.db)) (sym c.in_err-reply.ensures.same_blocks)
          (subst (λ (d : Database). IfSome c.self.inside.blocks (AreBlocksIn d)) same c.self.invariant.blocked);
      views = subst (λ (d : Database). AreViewsOf d c.self.inside.views) same c.self.invariant.views;
    }

pub invariant_of-self-2 : goal.invariant_of-self-2
invariant_of-self-2 g c =
    let db = c.self.inside.store.db in
    let after = database_then db c.in_ok-plan.plan.prepared in
    let is = sym c.in_ok-reply.ensures.ok in
    let views = c.self.inside.views in
    let later = c.mark.new.self in
    let next = made_next db (statement_tree c.args.statement.now) after c.in_ok-plan.ensures.made in
    record {
      valid = subst IsValid is c.in_ok-plan.ensures.leads.valid;
      last = c.in_ok-reply.ensures.last;
      blocked = subst (λ (o : Option (List Block)). IfSome o (AreBlocksIn c.make.new.store.db)) (sym c.in_ok-reply.ensures.blocked) tt;
      views = subst (λ (d : Database). AreViewsOf d later) is
          (changed_views db after c.in_ok-plan.plan.prepared.graph.delta c.in_ok-plan.plan.new_labels c.self.invariant.valid
          c.in_ok-plan.ensures.leads.valid c.in_ok-plan.ensures.labels c.in_ok-plan.ensures.delta views later c.in_ok-marks.marks c.mark.ensures
          c.labels.result.now c.delta.result.now c.labels.ensures c.delta.ensures c.in_ok-marks.ensures.exact c.self.invariant.views next);
    }

pub returns-clause-ok : goal.returns-clause-ok
returns-clause-ok g c =
    let tree = statement_tree c.args.statement.now in
    let db = c.self.inside.store.db in
    let views = c.self.inside.views in
    let later = c.mark.new.self in
    let reply = c.in_ok-reply.reply in
    let done = c.in_ok-reply.ensures in
    let after : State = (kept_of c.make.new.store.db c.make.new.history later).state in
    let same = turned_queries (Contains c.in_ok-marks.marks) None views later c.mark.ensures in
    subst (λ (kept : Kept). Performs kept.state tree reply after) c.self.view_is
    (change_done db c.self.inside.history (queries_of views) tree c.requires.changing (database_then db c.in_ok-plan.plan.prepared)
    c.in_ok-plan.ensures.made reply after done.ok done.moments same done.light done.counts)

pub returns-clause-fresh : goal.returns-clause-fresh
returns-clause-fresh g c =
    let tree = statement_tree c.args.statement.now in
    let db = c.self.inside.store.db in
    let after = database_then db c.in_ok-plan.plan.prepared in
    let views = c.self.inside.views in
    let later = c.mark.new.self in
    let then = c.make.new.history in
    let reply = c.in_ok-reply.reply in
    let next = made_next db tree after c.in_ok-plan.ensures.made in
    subst (λ (kept : Kept). KeepsFresh kept tree reply (kept_of c.make.new.store.db then later)) c.self.view_is
    (subst (λ (d : Database). KeepsFresh (kept_of db c.self.inside.history views) tree reply (kept_of d then later)) (sym c.in_ok-reply.ensures.ok)
    (changed_keeps db after c.in_ok-plan.plan.prepared.graph.delta c.in_ok-plan.plan.new_labels c.self.invariant.valid
    c.in_ok-plan.ensures.leads.valid c.in_ok-plan.ensures.labels c.in_ok-plan.ensures.delta views later c.in_ok-marks.marks c.mark.ensures
    c.labels.result.now c.delta.result.now c.labels.ensures c.delta.ensures c.in_ok-marks.ensures.exact c.self.invariant.views next
    c.self.inside.history then tree reply (plain_unanswered tree (changing_plain tree c.requires.changing))))

pub returns-clause-bounded : goal.returns-clause-bounded
returns-clause-bounded g c =
    let tree = statement_tree c.args.statement.now in
    let before : State = (kept_of c.self.inside.store.db c.self.inside.history c.self.inside.views).state in
    subst (λ (kept : Kept). Within kept.state tree c.args.steps.now c.planned.new.steps c.in_ok-reply.reply) c.self.view_is
    (made_within before tree c.args.steps.now c.planned.new.steps c.in_ok-plan.ensures.bounded c.make.new.store.db c.in_ok-reply.reply
    c.in_ok-reply.ensures.counts)

pub returns-in_err-plan-clause-uncounted : goal.returns-in_err-plan-clause-uncounted
returns-in_err-plan-clause-uncounted g c = λ quiet.
    let tree = statement_tree c.args.statement.now in
    let before : Kept = kept_with c.self.inside.store.db c.self.inside.history c.self.inside.blocks c.self.inside.views in
    c.in_err-plan.ensures.uncounted
    (changing_quiet before tree c.requires.changing (subst (λ (kept : Kept). CountsNoStep kept tree) (sym c.self.view_is) quiet))

pub returns-in_err-marks-clause-refused : goal.returns-in_err-marks-clause-refused
returns-in_err-marks-clause-refused g c =
    told_on (StateCause c.args.self.now.state (statement_tree c.args.statement.now)) state_order c.from_residual-in_err-marks.result None
    c.from_residual-in_err-marks.ensures.1 tt

pub returns-in_err-marks-clause-stopped : goal.returns-in_err-marks-clause-stopped
returns-in_err-marks-clause-stopped g c =
    none_within c.args.self.now.state (statement_tree c.args.statement.now) c.args.steps.now c.planned.new.steps c.from_residual-in_err-marks.result
    c.from_residual-in_err-marks.ensures.1

pub returns-in_err-marks-clause-uncounted : goal.returns-in_err-marks-clause-uncounted
returns-in_err-marks-clause-uncounted g c = λ quiet.
    let tree = statement_tree c.args.statement.now in
    let before : Kept = kept_with c.self.inside.store.db c.self.inside.history c.self.inside.blocks c.self.inside.views in
    c.in_ok-plan.ensures.uncounted
    (changing_quiet before tree c.requires.changing (subst (λ (kept : Kept). CountsNoStep kept tree) (sym c.self.view_is) quiet))

pub returns-in_err-reply-clause-uncounted : goal.returns-in_err-reply-clause-uncounted
returns-in_err-reply-clause-uncounted g c = λ quiet.
    let tree = statement_tree c.args.statement.now in
    let before : Kept = kept_with c.self.inside.store.db c.self.inside.history c.self.inside.blocks c.self.inside.views in
    c.in_ok-plan.ensures.uncounted
    (changing_quiet before tree c.requires.changing (subst (λ (kept : Kept). CountsNoStep kept tree) (sym c.self.view_is) quiet))

pub returns-clause-uncounted : goal.returns-clause-uncounted
returns-clause-uncounted g c = λ quiet.
    let tree = statement_tree c.args.statement.now in
    let before : Kept = kept_with c.self.inside.store.db c.self.inside.history c.self.inside.blocks c.self.inside.views in
    c.in_ok-plan.ensures.uncounted
    (changing_quiet before tree c.requires.changing (subst (λ (kept : Kept). CountsNoStep kept tree) (sym c.self.view_is) quiet))

pub returns-clause-blocked : goal.returns-clause-blocked
returns-clause-blocked g c =
    let tree = statement_tree c.args.statement.now in
    let reply = c.in_ok-reply.reply in
    subst (λ (kept : Kept). is_some c.make.new.blocks ≡ blocked_then kept.blocked tree reply) c.self.view_is
    (changed_blocked (is_some c.self.inside.blocks) tree c.requires.changing c.make.new.store.db reply c.make.new.blocks c.in_ok-reply.ensures.counts
    c.in_ok-reply.ensures.blocked)
