use Rattle.std.proofs.Common.{◌≡◌, refl, sym, ap, subst, ◌∙◌}
use Rattle.std.specs.Prelude.{ℤ}
use Rattle.std.specs.Int.{w64, cast_signed, cast_unsigned}
use Rattle.std.proofs.lemmas.Int.{to_z-of_z}
use Rattle.lorel_trees.specs.declared.statements.Statement.{Statement}
use Rattle.lorel_trees.specs.Trees.{StatementTree, history, select_at, changes, blocks, blocks_of, watch, unwatch, show, select_tree, statement_tree}
use Rattle.lorel_trees.specs.Sound.{IsSound}
use Rattle.lorel_trees.proofs.FormLaws.{sound_statement}
use Rattle.statements.proofs.ShallowLaws.{at_shallow, blocks_shallow}
use Rattle.lore_db.specs.States.{CountsNoStep, BlocksTellAll}
use Rattle.lore_db.proofs.BlockedLaws.{LeavesBlocks, leaves_blocks}
use Rattle.lore_db.proofs.BoundLaws.{IsDone, still_within, still_stops}
use Rattle.lore_db.proofs.PerformLaws.{on_reply_any, on_err_any}
use Rattle.lore_db.proofs.KeptLaws.{asked_keeps}
use Rattle.lore_db.proofs.db.Db.perform.Goals as goal

pub returns-in-History : goal.returns-in-History
returns-in-History g c =
    let kept = c.args.self.now in
    let now = c.keep.new.steps in
    let old = c.args.steps.now in
    let result = c.keep.result in
    let asked = history c.in-History.on in
    let is = sym (ap statement_tree c.in-History.is) in
    let done = subst (λ (tree : StatementTree). IsDone kept c.keep.new.self tree old now result) is (record {
      ok = c.keep.ensures.ok;
      fresh = c.keep.ensures.fresh;
      refused = c.keep.ensures.refused;
      uncounted = c.keep.ensures.uncounted;
      bounded = still_within kept.state asked old now (λ h. h) result;
      stopped = still_stops kept.state asked old now (λ h. h) result;
    }) in
    let left = subst (λ (tree : StatementTree). LeavesBlocks kept c.keep.new.self tree old now result) is
    (leaves_blocks kept c.keep.new.self asked old now result (λ h. h) refl c.keep.ensures.blocked) in
    record {
      ok = done.ok;
      fresh = done.fresh;
      refused = done.refused;
      blocked = left.blocked;
      same = c.keep.ensures.same;
      uncounted = done.uncounted;
      unread = left.unread;
      bounded = done.bounded;
      stopped = done.stopped;
    }

pub select_at-requires : goal.select_at-requires
select_at-requires g c =
    at_shallow c.in-At.moment (select_tree c.in-At.query) (subst (λ (s : Statement). IsSound (statement_tree s)) c.in-At.is c.requires)

-- the number is one of 64 bits, and so it is passed as it is
pub returns-in-At : goal.returns-in-At
returns-in-At g c =
    let kept = c.args.self.now in
    let now = c.select_at.new.steps in
    let old = c.args.steps.now in
    let result = c.select_at.result in
    let moment = c.in-At.moment in
    let query = select_tree c.in-At.query in
    let passed = cast_signed w64 (cast_unsigned w64 moment) in
    let sound = subst (λ (s : Statement). IsSound (statement_tree s)) c.in-At.is c.requires in
    let same = to_z-of_z w64 moment (sound_statement (select_at moment query) sound).0 in
    let is = ap (λ (n : ℤ). select_at n query) same ∙ sym (ap statement_tree c.in-At.is) in
    let done = subst (λ (tree : StatementTree). IsDone kept kept tree old now result) is (record {
      ok = c.select_at.ensures.ok;
      fresh = asked_keeps kept (select_at passed query) (λ name is. is) result;
      refused = c.select_at.ensures.refused;
      uncounted = c.select_at.ensures.uncounted;
      bounded = still_within kept.state (select_at passed query) old now (λ h. h) result;
      stopped = still_stops kept.state (select_at passed query) old now (λ h. h) result;
    }) in
    let left = subst (λ (tree : StatementTree). LeavesBlocks kept kept tree old now result) is
    (leaves_blocks kept kept (select_at passed query) old now result (λ h. h) refl refl) in
    record {
      ok = done.ok;
      fresh = done.fresh;
      refused = done.refused;
      blocked = left.blocked;
      same = on_err_any result (c.args.self.now ≡ c.args.self.now) refl;
      uncounted = done.uncounted;
      unread = left.unread;
      bounded = done.bounded;
      stopped = done.stopped;
    }

pub returns-in-ChangesList : goal.returns-in-ChangesList
returns-in-ChangesList g c =
    let kept = c.args.self.now in
    let old = c.args.steps.now in
    let result = c.changes.result in
    let first = c.in-ChangesList.first in
    let last = c.in-ChangesList.last in
    let from = cast_signed w64 (cast_unsigned w64 first) in
    let to = cast_signed w64 (cast_unsigned w64 last) in
    let sound = subst (λ (s : Statement). IsSound (statement_tree s)) c.in-ChangesList.is c.requires in
    let formed = sound_statement (changes first last) sound in
    let from_is = to_z-of_z w64 first formed.0 in
    let to_is = to_z-of_z w64 last formed.1 in
    let is : changes from to ≡ statement_tree c.args.statement.now = (λ k. changes (from_is k) (to_is k)) ∙ sym (ap statement_tree c.in-ChangesList.is) in
    let done = subst (λ (tree : StatementTree). IsDone kept kept tree old old result) is (record {
      ok = c.changes.ensures.ok;
      fresh = asked_keeps kept (changes from to) (λ name is. is) result;
      refused = c.changes.ensures.refused;
      uncounted = on_reply_any result (CountsNoStep kept (changes from to) → old ≡ old) (λ quiet. refl);
      bounded = still_within kept.state (changes from to) old old (λ h. h) result;
      stopped = still_stops kept.state (changes from to) old old (λ h. h) result;
    }) in
    let left = subst (λ (tree : StatementTree). LeavesBlocks kept kept tree old old result) is
    (leaves_blocks kept kept (changes from to) old old result (λ h. h) refl refl) in
    record {
      ok = done.ok;
      fresh = done.fresh;
      refused = done.refused;
      blocked = left.blocked;
      same = on_err_any result (c.args.self.now ≡ c.args.self.now) refl;
      uncounted = done.uncounted;
      unread = left.unread;
      bounded = done.bounded;
      stopped = done.stopped;
    }

pub returns-in-Blocks : goal.returns-in-Blocks
returns-in-Blocks g c =
    let kept = c.args.self.now in
    let after = c.show_blocks.new.self in
    let now = c.show_blocks.new.steps in
    let old = c.args.steps.now in
    let result = c.show_blocks.result in
    let is : blocks ≡ statement_tree c.args.statement.now = sym (ap statement_tree c.in-Blocks.is) in
    let done = subst (λ (tree : StatementTree). IsDone kept after tree old now result) is (record {
      ok = c.show_blocks.ensures.ok;
      fresh = c.show_blocks.ensures.fresh;
      refused = c.show_blocks.ensures.refused;
      uncounted = on_reply_any result (CountsNoStep kept blocks → now ≡ old) (λ quiet. absurd quiet);
      bounded = still_within kept.state blocks old now (λ h. h) result;
      stopped = still_stops kept.state blocks old now (λ h. h) result;
    }) in
    let left = subst (λ (tree : StatementTree). LeavesBlocks kept after tree old now result) is (record {
      blocked = c.show_blocks.ensures.blocked;
      unread = on_reply_any result (BlocksTellAll kept blocks → now ≡ old) c.show_blocks.ensures.unread;
    }) in
    record {
      ok = done.ok;
      fresh = done.fresh;
      refused = done.refused;
      blocked = left.blocked;
      same = c.show_blocks.ensures.same;
      uncounted = done.uncounted;
      unread = left.unread;
      bounded = done.bounded;
      stopped = done.stopped;
    }

pub select_blocks-requires : goal.select_blocks-requires
select_blocks-requires g c =
    blocks_shallow (select_tree c.in-BlocksSelect.query) (subst (λ (s : Statement). IsSound (statement_tree s)) c.in-BlocksSelect.is c.requires)

pub returns-in-BlocksSelect : goal.returns-in-BlocksSelect
returns-in-BlocksSelect g c =
    let kept = c.args.self.now in
    let after = c.select_blocks.new.self in
    let now = c.select_blocks.new.steps in
    let old = c.args.steps.now in
    let result = c.select_blocks.result in
    let asked = blocks_of (select_tree c.in-BlocksSelect.query) in
    let is : asked ≡ statement_tree c.args.statement.now = sym (ap statement_tree c.in-BlocksSelect.is) in
    let done = subst (λ (tree : StatementTree). IsDone kept after tree old now result) is (record {
      ok = c.select_blocks.ensures.ok;
      fresh = c.select_blocks.ensures.fresh;
      refused = c.select_blocks.ensures.refused;
      uncounted = on_reply_any result (CountsNoStep kept asked → now ≡ old) (λ quiet. absurd quiet);
      bounded = still_within kept.state asked old now (λ h. h) result;
      stopped = still_stops kept.state asked old now (λ h. h) result;
    }) in
    let left = subst (λ (tree : StatementTree). LeavesBlocks kept after tree old now result) is (record {
      blocked = c.select_blocks.ensures.blocked;
      unread = c.select_blocks.ensures.unread;
    }) in
    record {
      ok = done.ok;
      fresh = done.fresh;
      refused = done.refused;
      blocked = left.blocked;
      same = c.select_blocks.ensures.same;
      uncounted = done.uncounted;
      unread = left.unread;
      bounded = done.bounded;
      stopped = done.stopped;
    }

pub watch-requires : goal.watch-requires
watch-requires g c = subst (λ (s : Statement). IsSound (statement_tree s)) c.in-Watch.is c.requires

pub returns-in-Watch : goal.returns-in-Watch
returns-in-Watch g c =
    let kept = c.args.self.now in
    let after = c.watch.new.self in
    let old = c.args.steps.now in
    let now = c.watch.new.steps in
    let result = c.watch.result in
    let asked = watch c.in-Watch.name (select_tree c.in-Watch.select) in
    let is = sym (ap statement_tree c.in-Watch.is) in
    let done = subst (λ (tree : StatementTree). IsDone kept after tree old now result) is (record {
      ok = c.watch.ensures.ok;
      fresh = c.watch.ensures.fresh;
      refused = c.watch.ensures.refused;
      uncounted = c.watch.ensures.uncounted;
      bounded = still_within kept.state asked old now (λ h. h) result;
      stopped = still_stops kept.state asked old now (λ h. h) result;
    }) in
    let left = subst (λ (tree : StatementTree). LeavesBlocks kept after tree old now result) is
    (leaves_blocks kept after asked old now result (λ h. h) refl c.watch.ensures.blocked) in
    record {
      ok = done.ok;
      fresh = done.fresh;
      refused = done.refused;
      blocked = left.blocked;
      same = c.watch.ensures.same;
      uncounted = done.uncounted;
      unread = left.unread;
      bounded = done.bounded;
      stopped = done.stopped;
    }

pub returns-in-Unwatch : goal.returns-in-Unwatch
returns-in-Unwatch g c =
    let kept = c.args.self.now in
    let after = c.unwatch.new.self in
    let old = c.args.steps.now in
    let result = c.unwatch.result in
    let asked = unwatch c.in-Unwatch.name in
    let is = sym (ap statement_tree c.in-Unwatch.is) in
    let done = subst (λ (tree : StatementTree). IsDone kept after tree old old result) is (record {
      ok = c.unwatch.ensures.ok;
      fresh = c.unwatch.ensures.fresh;
      refused = c.unwatch.ensures.refused;
      uncounted = on_reply_any result (CountsNoStep kept asked → old ≡ old) (λ quiet. refl);
      bounded = still_within kept.state asked old old (λ h. h) result;
      stopped = still_stops kept.state asked old old (λ h. h) result;
    }) in
    let left = subst (λ (tree : StatementTree). LeavesBlocks kept after tree old old result) is
    (leaves_blocks kept after asked old old result (λ h. h) refl c.unwatch.ensures.blocked) in
    record {
      ok = done.ok;
      fresh = done.fresh;
      refused = done.refused;
      blocked = left.blocked;
      same = c.unwatch.ensures.same;
      uncounted = done.uncounted;
      unread = left.unread;
      bounded = done.bounded;
      stopped = done.stopped;
    }

pub returns-in-Show : goal.returns-in-Show
returns-in-Show g c =
    let kept = c.args.self.now in
    let after = c.show.new.self in
    let old = c.args.steps.now in
    let now = c.show.new.steps in
    let result = c.show.result in
    let asked = show c.in-Show.name in
    let is = sym (ap statement_tree c.in-Show.is) in
    let done = subst (λ (tree : StatementTree). IsDone kept after tree old now result) is (record {
      ok = c.show.ensures.ok;
      fresh = c.show.ensures.fresh;
      refused = c.show.ensures.refused;
      uncounted = c.show.ensures.uncounted;
      bounded = still_within kept.state asked old now (λ h. h) result;
      stopped = still_stops kept.state asked old now (λ h. h) result;
    }) in
    let left = subst (λ (tree : StatementTree). LeavesBlocks kept after tree old now result) is
    (leaves_blocks kept after asked old now result (λ h. h) refl c.show.ensures.blocked) in
    record {
      ok = done.ok;
      fresh = done.fresh;
      refused = done.refused;
      blocked = left.blocked;
      same = c.show.ensures.same;
      uncounted = done.uncounted;
      unread = left.unread;
      bounded = done.bounded;
      stopped = done.stopped;
    }
