use Rattle.std.proofs.Common.{◌≡◌, List, Option, true, refl, ap, sym, subst}
use Rattle.std.specs.Prelude.{IfSome, is_some}
use Rattle.lore_base.specs.Verdicts.{IsToldBy}
use Rattle.lorel_trees.specs.Trees.{select_tree, blocks_of}
use Rattle.one_index.specs.declared.blocks.Block.{Block}
use Rattle.statements.specs.Blocks.{AreBlocksIn}
use Rattle.statements.specs.Stops.{told}
use Rattle.statements.specs.Uncounted.{IsPlainSelect}
use Rattle.statements.proofs.StopLaws.{told_again, reply_again, told_weaker}
use Rattle.lore_db.specs.Types.{Rows}
use Rattle.lore_db.specs.States.{State, Kept, StateCause, state_order, Performs, BlocksTellAll}
use Rattle.lore_db.specs.Freshness.{KeepsFresh}
use Rattle.lore_db.specs.inside.Kept.{kept_of}
use Rattle.lore_db.proofs.PerformLaws.{on_reply_any}
use Rattle.lore_db.proofs.KeptLaws.{same_keeps}
use Rattle.lore_db.proofs.BlockedLaws.{selects_blocks, selects_told, not_blocked}
use Rattle.lore_db.proofs.db.Db.select_blocks.Goals as goal

pub rows_by-requires-clause-blocks : goal.rows_by-requires-clause-blocks
rows_by-requires-clause-blocks g c =
    subst (λ (o : Option (List Block)). IfSome o (AreBlocksIn c.self.inside.store.db)) c.in-Some.is c.self.invariant.blocked

pub returns-in_err-rows_by-clause-refused : goal.returns-in_err-rows_by-clause-refused
returns-in_err-rows_by-clause-refused g c =
    let state : State = (kept_of c.self.inside.store.db c.self.inside.history c.self.inside.views).state in
    let tree = blocks_of (select_tree c.args.query.now) in
    let stop = c.in_err-rows_by.field-0.0 in
    told_again (StateCause c.args.self.now.state tree) state_order c.from_residual.result stop c.from_residual.ensures.1
    (subst (λ (kept : Kept). IsToldBy (StateCause kept.state tree) state_order (told stop)) c.self.view_is
    (selects_told state (select_tree c.args.query.now) (told stop) c.in_err-rows_by.ensures.refused))

pub returns-in-Some-clause-ok : goal.returns-in-Some-clause-ok
returns-in-Some-clause-ok g c =
    let state : State = (kept_of c.self.inside.store.db c.self.inside.history c.self.inside.views).state in
    let query = select_tree c.args.query.now in
    let rows = c.in_ok-rows_by.field-0 in
    subst (λ (kept : Kept). Performs kept.state (blocks_of query) (Rows rows) kept.state) c.self.view_is
    (selects_blocks state query rows c.in_ok-rows_by.ensures.ok)

pub returns-in-Some-clause-blocked : goal.returns-in-Some-clause-blocked
returns-in-Some-clause-blocked g c =
    subst (λ (kept : Kept). kept.blocked ≡ true) c.self.view_is (ap (λ (o : Option (List Block)). is_some o) c.in-Some.is)

pub returns-in-Some-clause-unread : goal.returns-in-Some-clause-unread
returns-in-Some-clause-unread g c = λ quiet.
    c.in_ok-rows_by.ensures.quiet
    (subst (λ (kept : Kept). IsPlainSelect kept.state.db (select_tree c.args.query.now)) (sym c.self.view_is) quiet.1)

pub returns-in_err-rows_by-clause-unread : goal.returns-in_err-rows_by-clause-unread
returns-in_err-rows_by-clause-unread g c =
    let query = select_tree c.args.query.now in
    let stop = c.in_err-rows_by.field-0.0 in
    let Same = c.rows_by.new.steps ≡ c.args.steps.now in
    let Quiet = BlocksTellAll c.args.self.now (blocks_of query) → Same in
    reply_again c.from_residual.result stop c.from_residual.ensures.1 Quiet
    (told_weaker (told stop) (IsPlainSelect c.self.inside.store.db query → Same) Quiet
    (λ same quiet. same (subst (λ (kept : Kept). IsPlainSelect kept.state.db query) (sym c.self.view_is) quiet.1)) c.in_err-rows_by.ensures.quiet)

pub returns-in_err-rows-clause-refused : goal.returns-in_err-rows-clause-refused
returns-in_err-rows-clause-refused g c =
    let state : State = (kept_of c.self.inside.store.db c.self.inside.history c.self.inside.views).state in
    let tree = blocks_of (select_tree c.args.query.now) in
    let stop = c.in_err-rows.field-0.0 in
    told_again (StateCause c.args.self.now.state tree) state_order c.from_residual-in_err-rows.result stop c.from_residual-in_err-rows.ensures.1
    (subst (λ (kept : Kept). IsToldBy (StateCause kept.state tree) state_order (told stop)) c.self.view_is
    (selects_told state (select_tree c.args.query.now) (told stop) c.in_err-rows.ensures.refused))

pub invariant_of-self : goal.invariant_of-self
invariant_of-self g c = record {
  valid = c.self.invariant.valid;
  last = c.self.invariant.last;
  blocked = c.in_ok-blocks.ensures;
  views = c.self.invariant.views;
}

pub returns-clause-ok : goal.returns-clause-ok
returns-clause-ok g c =
    let state : State = (kept_of c.self.inside.store.db c.self.inside.history c.self.inside.views).state in
    let query = select_tree c.args.query.now in
    let rows = c.in_ok-rows.rows in
    subst (λ (kept : Kept). Performs kept.state (blocks_of query) (Rows rows) state) c.self.view_is
    (selects_blocks state query rows c.in_ok-rows.ensures.ok)

pub returns-clause-unread : goal.returns-clause-unread
returns-clause-unread g c = λ kept.
    absurd (not_blocked c.self.inside.blocks c.in_default.not-Some c.args.self.now.blocked (ap (λ (k : Kept). k.blocked) c.self.view_is) kept.0)

pub returns-in_err-blocks-clause-unread : goal.returns-in_err-blocks-clause-unread
returns-in_err-blocks-clause-unread g c = on_reply_any c.from_residual-in_err-blocks.result _ (λ kept.
    absurd (not_blocked c.self.inside.blocks c.in_default.not-Some c.args.self.now.blocked (ap (λ (k : Kept). k.blocked) c.self.view_is) kept.0))

pub returns-in_err-rows-clause-unread : goal.returns-in_err-rows-clause-unread
returns-in_err-rows-clause-unread g c = on_reply_any c.from_residual-in_err-rows.result _ (λ kept.
    absurd (not_blocked c.self.inside.blocks c.in_default.not-Some c.args.self.now.blocked (ap (λ (k : Kept). k.blocked) c.self.view_is) kept.0))

pub returns-in-Some-clause-fresh : goal.returns-in-Some-clause-fresh
returns-in-Some-clause-fresh g c =
    let db = c.self.inside.store.db in
    let history = c.self.inside.history in
    let views = c.self.inside.views in
    let tree = blocks_of (select_tree c.args.query.now) in
    let reply = Rows c.in_ok-rows_by.field-0 in
    subst (λ (kept : Kept). KeepsFresh kept tree reply kept) c.self.view_is
    (same_keeps db db history history views tree reply (λ name is. is) refl)

pub returns-clause-fresh : goal.returns-clause-fresh
returns-clause-fresh g c =
    let db = c.self.inside.store.db in
    let history = c.self.inside.history in
    let views = c.self.inside.views in
    let tree = blocks_of (select_tree c.args.query.now) in
    let reply = Rows c.in_ok-rows.rows in
    subst (λ (kept : Kept). KeepsFresh kept tree reply (kept_of db history views)) c.self.view_is
    (same_keeps db db history history views tree reply (λ name is. is) refl)
