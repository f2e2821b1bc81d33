use Rattle.std.proofs.Common.{◌≡◌, List, Option, true, refl, ap, subst}
use Rattle.std.specs.Prelude.{IfSome, is_some}
use Rattle.lorel_trees.specs.Trees as t
use Rattle.one_index.specs.declared.blocks.Block.{Block}
use Rattle.statements.specs.Blocks.{named_graph, AreBlocksIn}
use Rattle.lore_db.specs.Types.{Lines}
use Rattle.lore_db.specs.States.{State, Kept, Performs}
use Rattle.lore_db.specs.Freshness.{KeepsFresh}
use Rattle.lore_db.specs.inside.Kept.{kept_of}
use Rattle.lore_db.proofs.KeptLaws.{same_keeps}
use Rattle.lore_db.proofs.BlockedLaws.{shows_blocks, not_blocked}
use Rattle.lore_db.proofs.db.Db.show_blocks.Goals as goal

pub returns-in-Some-clause-ok : goal.returns-in-Some-clause-ok
returns-in-Some-clause-ok g c =
    let db = c.self.inside.store.db in
    let state : State = (kept_of db c.self.inside.history c.self.inside.views).state in
    let own = subst (λ (o : Option (List Block)). IfSome o (AreBlocksIn db)) c.in-Some.is c.self.invariant.blocked in
    let lines = c.in_ok-block_lines.field-0 in
    subst (λ (kept : Kept). Performs kept.state t.blocks (Lines lines) kept.state) c.self.view_is
    (shows_blocks state lines (c.in_ok-block_lines.ensures (named_graph db) own))

pub returns-in-Some-clause-blocked : goal.returns-in-Some-clause-blocked
returns-in-Some-clause-blocked g c =
    subst (λ (kept : Kept). kept.blocked ≡ true) c.self.view_is (ap (λ (o : Option (List Block)). is_some o) c.in-Some.is)

pub invariant_of-self : goal.invariant_of-self
invariant_of-self g c = record {
  valid = c.self.invariant.valid;
  last = c.self.invariant.last;
  blocked = c.in_ok-blocks.ensures;
  views = c.self.invariant.views;
}

pub returns-clause-ok : goal.returns-clause-ok
returns-clause-ok g c =
    let db = c.self.inside.store.db in
    let state : State = (kept_of db c.self.inside.history c.self.inside.views).state in
    let lines = c.in_ok-lines.lines in
    subst (λ (kept : Kept). Performs kept.state t.blocks (Lines lines) state) c.self.view_is
    (shows_blocks state lines (c.in_ok-lines.ensures (named_graph db) c.in_ok-blocks.ensures))

pub returns-in_err-blocks-clause-unread : goal.returns-in_err-blocks-clause-unread
returns-in_err-blocks-clause-unread g c = λ kept.
    absurd (not_blocked c.self.inside.blocks c.in_default.not-Some c.args.self.now.blocked (ap (λ (k : Kept). k.blocked) c.self.view_is) kept)

pub returns-in_err-lines-clause-unread : goal.returns-in_err-lines-clause-unread
returns-in_err-lines-clause-unread g c = λ kept.
    absurd (not_blocked c.self.inside.blocks c.in_default.not-Some c.args.self.now.blocked (ap (λ (k : Kept). k.blocked) c.self.view_is) kept)

pub returns-clause-unread : goal.returns-clause-unread
returns-clause-unread g c = λ kept.
    absurd (not_blocked c.self.inside.blocks c.in_default.not-Some c.args.self.now.blocked (ap (λ (k : Kept). k.blocked) c.self.view_is) kept)

pub returns-in-Some-clause-fresh : goal.returns-in-Some-clause-fresh
returns-in-Some-clause-fresh g c =
    let db = c.self.inside.store.db in
    let history = c.self.inside.history in
    let views = c.self.inside.views in
    let tree = t.blocks in
    let reply = Lines c.in_ok-block_lines.field-0 in
    subst (λ (kept : Kept). KeepsFresh kept tree reply kept) c.self.view_is
    (same_keeps db db history history views tree reply (λ name is. is) refl)

pub returns-clause-fresh : goal.returns-clause-fresh
returns-clause-fresh g c =
    let db = c.self.inside.store.db in
    let history = c.self.inside.history in
    let views = c.self.inside.views in
    let tree = t.blocks in
    let reply = Lines c.in_ok-lines.lines in
    subst (λ (kept : Kept). KeepsFresh kept tree reply (kept_of db history views)) c.self.view_is
    (same_keeps db db history history views tree reply (λ name is. is) refl)
