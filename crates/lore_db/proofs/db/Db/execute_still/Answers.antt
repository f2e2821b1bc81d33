use Rattle.std.proofs.Common.{◌≡◌, Some, true≢false, sym, subst, ◌∙◌}
use Rattle.std.specs.Prelude.{IfSome, is_some}
use Rattle.lore_base.specs.Databases.{Database, IsValid}
use Rattle.lore_base.specs.Verdicts.{IsToldBy}
use Rattle.lorel_trees.specs.Trees.{statement_tree}
use Rattle.view_laws.specs.Freshness.{AreViewsOf}
use Rattle.statements.specs.Types.refusals
use Rattle.statements.specs.Blocks.{AreBlocksIn}
use Rattle.lore_db.specs.States.{State, Kept, present, Performs, StateCause, state_order, CountsNoStep, blocked_then}
use Rattle.lore_db.specs.Freshness.{KeepsFresh}
use Rattle.lore_db.specs.inside.Kept.{kept_of, kept_with, IsLast}
use Rattle.lore_db.proofs.PerformLaws.{still_performs, quiet_reads, kept_out}
use Rattle.lore_db.proofs.BlockedLaws.{left_own, left_blocked}
use Rattle.lore_db.proofs.StillLaws.{still_last, still_are, still_keeps}
use Rattle.lore_db.proofs.db.Db.execute_still.Goals as goal

pub returns-then-keeps_out-clause-refused : goal.returns-then-keeps_out-clause-refused
returns-then-keeps_out-clause-refused g c =
    let tree = statement_tree c.args.statement.now in
    let before : State = (kept_of c.self.inside.store.db c.self.inside.history c.self.inside.views).state in
    subst (λ (kept : Kept). IsToldBy (StateCause kept.state tree) state_order (Some refusals.NotFresh)) c.self.view_is
    (kept_out before tree (c.keeps_out.ensures.0 c.if-keeps_out.true))

pub invariant_of-self : goal.invariant_of-self
invariant_of-self g c =
    let same = sym c.in_err-reply.ensures.err in
    record {
      valid = subst IsValid same c.self.invariant.valid;
      last = subst (λ (d : Database). IsLast c.self.inside.history (present d)) same c.self.invariant.last;
      blocked = subst (λ (d : Database). IfSome c.self.inside.blocks (AreBlocksIn d)) same c.self.invariant.blocked;
      views = subst (λ (d : Database). AreViewsOf d c.self.inside.views) same c.self.invariant.views;
    }

pub invariant_of-self-2 : goal.invariant_of-self-2
invariant_of-self-2 g c =
    let tree = statement_tree c.args.statement.now in
    let db = c.self.inside.store.db in
    let then = c.execute.new.store.db in
    let reply = c.in_ok-reply.reply in
    record {
      valid = c.graph-graph.ensures.valid;
      last = still_last db then tree c.requires.still reply c.in_ok-reply.ensures.ok c.self.inside.history
          (λ h. true≢false (sym (c.keeps_out.ensures.1 h) ∙ c.if-keeps_out.false)) c.self.invariant.last;
      blocked = left_own db tree c.requires.still reply then c.in_ok-reply.ensures.ok c.self.inside.blocks c.leave.new.blocks
          c.leave.ensures.gone c.leave.ensures.kept c.self.invariant.blocked;
      views = still_are db then tree c.requires.still reply c.in_ok-reply.ensures.ok c.self.inside.views c.self.invariant.views
          c.self.invariant.valid c.graph-graph.ensures.valid;
    }

pub returns-clause-ok : goal.returns-clause-ok
returns-clause-ok g c =
    let tree = statement_tree c.args.statement.now in
    let before : State = (kept_of c.self.inside.store.db c.self.inside.history c.self.inside.views).state in
    let after : State = (kept_of c.execute.new.store.db c.self.inside.history c.self.inside.views).state in
    subst (λ (kept : Kept). Performs kept.state tree c.in_ok-reply.reply after) c.self.view_is
    (still_performs before tree c.requires.still c.requires.plain (λ h. true≢false (sym (c.keeps_out.ensures.1 h) ∙ c.if-keeps_out.false))
    c.in_ok-reply.reply c.execute.new.store.db c.in_ok-reply.ensures.ok)

pub returns-clause-fresh : goal.returns-clause-fresh
returns-clause-fresh g c =
    let tree = statement_tree c.args.statement.now in
    let then = c.execute.new.store.db in
    let history = c.self.inside.history in
    let views = c.self.inside.views in
    subst (λ (kept : Kept). KeepsFresh kept tree c.in_ok-reply.reply (kept_of then history views)) c.self.view_is
    (still_keeps c.self.inside.store.db then tree c.requires.still c.in_ok-reply.reply c.in_ok-reply.ensures.ok views c.self.invariant.views
    c.self.invariant.valid c.graph-graph.ensures.valid c.requires.plain history)

pub returns-clause-uncounted : goal.returns-clause-uncounted
returns-clause-uncounted g c = λ quiet.
    let tree = statement_tree c.args.statement.now in
    let before : Kept = kept_with c.self.inside.store.db c.self.inside.history c.self.inside.blocks c.self.inside.views in
    c.in_ok-reply.ensures.uncounted
    (quiet_reads before tree c.requires.plain (λ h. true≢false (sym (c.keeps_out.ensures.1 h) ∙ c.if-keeps_out.false))
    (subst (λ (kept : Kept). CountsNoStep kept tree) (sym c.self.view_is) quiet))

pub returns-clause-blocked : goal.returns-clause-blocked
returns-clause-blocked g c =
    let tree = statement_tree c.args.statement.now in
    subst (λ (kept : Kept). is_some c.leave.new.blocks ≡ blocked_then kept.blocked tree c.in_ok-reply.reply) c.self.view_is
    (left_blocked c.self.inside.store.db tree c.requires.still c.in_ok-reply.reply c.execute.new.store.db c.in_ok-reply.ensures.ok
    c.self.inside.blocks c.leave.new.blocks c.leave.ensures.gone c.leave.ensures.kept c.requires.unblocked)
