-- Blocks that are kept: what they tell, which statements leave them, and that they are then still the database's.
use Rattle.std.proofs.Common.{◌≡◌, ◌⊎◌, ℕ, Bool, true, false, true≢false, inl, inr, List, map, Option, Some, None, Result, Ok, Err, IfOk, refl, sym, ap, subst, ◌∙◌}
use Rattle.std.specs.Prelude.{IfSome, OnErr, is_some}
use Rattle.lore_base.specs.Databases.{Database}
use Rattle.lore_base.specs.Types.{NoMemory}
use Rattle.lore_base.specs.Verdicts.{IsToldBy}
use Rattle.lorel_trees.specs.Trees as t
use Rattle.lorel_trees.specs.Trees.{SelectTree, StatementTree}
use Rattle.doem_history.specs.Moments.{Moment}
use Rattle.one_index.specs.Blocks.{named_graph_of, AreBlocksOf}
use Rattle.one_index.specs.declared.blocks.Block.{Block}
use Rattle.block_lines.specs.BlockLines.{AreBlockLines}
use Rattle.statements.specs.Types.{Oid, Value, Cell, Refusal}
use Rattle.statements.specs.Types.refusals
use Rattle.statements.specs.Forms.{IsChanging, IsOfBlocks}
use Rattle.statements.specs.Statements.{Cause, cause_order, Counts, Executes}
use Rattle.statements.specs.Blocks.{named_graph, AreBlocksIn}
use Rattle.statements.specs.Stops.{OnReply, IsRepliedTo}
use Rattle.statements.specs.declared.stops.Stop.{Stop}
use Rattle.statements.specs.declared.stops.Stop.TheVariants as stop
use Rattle.statements.proofs.BlockLaws.{blocks_clear}
use Rattle.lore_db.specs.Types.{Reply, Changed, Rows, Past, PlanShown, Lines, Dump, Refused}
use Rattle.lore_db.specs.States.{State, Kept, IsRestore, HistoryCause, StateCause, state_order, Performs}
use Rattle.lore_db.specs.States.{BlocksTellAll, blocked_by, blocked_then}
use Rattle.lore_db.specs.Freshness.{IsRefused}
use Rattle.lore_db.specs.inside.Kept.{IsRestored}
use Rattle.lore_db.proofs.StateLaws.{of_none, told_plain, admitted_plain, plain_told}
use Rattle.lore_db.proofs.PerformLaws.{still_performs, still_present, on_reply_any}

-- ---- what they tell
module _ (state : State) where
  pub shows_blocks : (lines : List (List ℕ)) → AreBlockLines (named_graph state.db) lines → Performs state t.blocks (Lines lines) state
  shows_blocks lines are =
      still_performs state t.blocks (λ h. h) (λ h. h)
      (λ h. of_none state.history (λ moments. IsRestore t.blocks) (λ moments is. is) h) (Lines lines) state.db
      (inl (blocks_clear state.db, (refl, (lines, refl, are))))

  module _ (query : SelectTree) where
    fresh : HistoryCause state (t.blocks_of query) refusals.NotFresh → ⊥
    fresh h = of_none state.history (λ moments. IsRestore (t.blocks_of query)) (λ moments is. is) h

    pub selects_blocks : (rows : List (List Cell)) → Executes state.db (t.blocks_of query) (Rows rows) state.db
        → Performs state (t.blocks_of query) (Rows rows) state
    selects_blocks rows executed = still_performs state (t.blocks_of query) (λ h. h) (λ h. h) fresh (Rows rows) state.db executed

    pub selects_told : (told : Option Refusal) → IsToldBy (Cause state.db (t.blocks_of query)) cause_order told
        → IsToldBy (StateCause state (t.blocks_of query)) state_order told
    selects_told told h =
        told_plain state (t.blocks_of query) (admitted_plain state (t.blocks_of query) (λ h. h) fresh) told
        (plain_told state (t.blocks_of query) (λ h. h) told h)

same_some : (blocks others : Option (List Block)) → blocks ≡ others → is_some blocks ≡ is_some others
same_some blocks others same = ap (λ (o : Option (List Block)). is_some o) same

-- where none are kept it isn't told that they are
pub not_blocked : (blocks : Option (List Block)) → ((own : List Block) → blocks ≡ Some own → ⊥) → (blocked : Bool) → is_some blocks ≡ blocked
    → blocked ≡ true → ⊥
not_blocked None none blocked is kept = true≢false (sym kept ∙ sym is)
not_blocked (Some own) none blocked is kept = none own refl

-- ---- a statement that changes no graph leaves them the database's
pub still_blocks : (before : Database) (statement : StatementTree) → (IsChanging statement → ⊥) → (IsRestore statement → ⊥) → (reply : Reply)
    (after : Database) → Executes before statement reply after → (blocks : List Block) → AreBlocksIn before blocks → AreBlocksIn after blocks
still_blocks before statement still stays reply after executed blocks are =
    subst (λ (m : Moment). AreBlocksOf (named_graph_of m.names (map (λ (object : Oid × Value). object.0) m.objects) m.edges) blocks)
    (sym (still_present before statement still stays reply after executed)) are

-- ---- whether they are kept
pub still_blocked : (before : Bool) (statement : StatementTree) → (IsChanging statement → ⊥) → (IsRestore statement → ⊥)
    → (IsOfBlocks statement → ⊥) → blocked_by before statement ≡ before
still_blocked before (t.load name literal) still kept plain = absurd (still tt)
still_blocked before (t.bind name path) still kept plain = absurd (still tt)
still_blocked before (t.unname name) still kept plain = absurd (still tt)
still_blocked before (t.assign target value tail) still kept plain = absurd (still tt)
still_blocked before (t.add_new target label literal tail) still kept plain = absurd (still tt)
still_blocked before (t.add_link target label right tail) still kept plain = absurd (still tt)
still_blocked before (t.remove target label right tail) still kept plain = absurd (still tt)
still_blocked before (t.generate seed count) still kept plain = absurd (still tt)
still_blocked before (t.restore text) still kept plain = absurd (kept tt)
still_blocked before t.blocks still kept plain = absurd (plain tt)
still_blocked before (t.blocks_of query) still kept plain = absurd (plain tt)
still_blocked before (t.select query) still kept plain = refl
still_blocked before (t.explain query) still kept plain = refl
still_blocked before t.guide still kept plain = refl
still_blocked before (t.browse start labels) still kept plain = refl
still_blocked before (t.sample start labels count) still kept plain = refl
still_blocked before (t.set_nodes nodes) still kept plain = refl
still_blocked before (t.set_plan mode) still kept plain = refl
still_blocked before t.dump still kept plain = refl
still_blocked before (t.history on) still kept plain = refl
still_blocked before (t.select_at moment query) still kept plain = refl
still_blocked before (t.changes first last) still kept plain = refl
still_blocked before (t.watch name query) still kept plain = refl
still_blocked before (t.unwatch name) still kept plain = refl
still_blocked before (t.show name) still kept plain = refl

-- by an accepted statement
accepted_blocked : (before : Bool) (statement : StatementTree) (reply : Reply) → (IsRefused reply → ⊥)
    → blocked_then before statement reply ≡ blocked_by before statement
accepted_blocked before statement (Refused refusal) accepted = absurd (accepted tt)
accepted_blocked before statement (Changed objects edges nodes) accepted = refl
accepted_blocked before statement (Rows rows) accepted = refl
accepted_blocked before statement (Past moment rows) accepted = refl
accepted_blocked before statement (PlanShown kind candidates found) accepted = refl
accepted_blocked before statement (Lines lines) accepted = refl
accepted_blocked before statement (Dump text) accepted = refl

-- one that is refused leaves them,
refused_then : (before : Bool) (statement : StatementTree) (reply : Reply) → IsRefused reply → blocked_then before statement reply ≡ before
refused_then before statement (Refused refusal) refused = refl
refused_then before statement reply refused = absurd refused

-- and so does one that changes no graph, whatever it replies
still_then : (before : Bool) (statement : StatementTree) (reply : Reply) → blocked_by before statement ≡ before
    → blocked_then before statement reply ≡ before
still_then before statement (Refused refusal) same = refl
still_then before statement (Changed objects edges nodes) same = same
still_then before statement (Rows rows) same = same
still_then before statement (Past moment rows) same = same
still_then before statement (PlanShown kind candidates found) same = same
still_then before statement (Lines lines) same = same
still_then before statement (Dump text) same = same

pub stays_blocked : {E : Type 0} (before new : Bool) (statement : StatementTree) (result : Result Reply E) → blocked_by before statement ≡ before
    → new ≡ before → IfOk result (λ reply. new ≡ blocked_then before statement reply)
stays_blocked before new statement (Ok reply) same is = is ∙ sym (still_then before statement reply same)
stays_blocked before new statement (Err error) same is = tt

-- ---- a statement that restores a dump, and others that list no changes
restores : (statement : StatementTree) → IsRestore statement ⊎ (IsRestore statement → ⊥)
restores (t.restore text) = inl tt
restores statement = inr (λ h. h)

refuses : (reply : Reply) → IsRefused reply ⊎ (IsRefused reply → ⊥)
refuses (Refused refusal) = inl tt
refuses reply = inr (λ h. h)

restored_then : (before : Bool) (statement : StatementTree) (reply : Reply) → IsRestore statement → (IsRefused reply → ⊥)
    → blocked_then before statement reply ≡ false
restored_then before (t.restore text) reply restoring accepted = accepted_blocked before (t.restore text) reply accepted
restored_then before statement reply restoring accepted = absurd restoring

not_changed : (refusal : Refusal) (objects edges nodes : ℕ) → Refused refusal ≡ Changed objects edges nodes → ⊥
not_changed refusal objects edges nodes same = cc

-- a dump that is refused leaves the database
refused_restore : (before : Database) (statement : StatementTree) (reply : Reply) (after : Database) → IsRestore statement → IsRefused reply
    → Executes before statement reply after → after ≡ before
refused_restore before (t.restore text) (Refused refusal) after restoring refused (inl (clear, (dumped, valid, (sets, targets, same)))) =
    absurd (not_changed refusal _ _ _ same)
refused_restore before (t.restore text) (Refused refusal) after restoring refused (inr (other, first, (replied, same))) = same
refused_restore before (t.restore text) reply after restoring refused executed = absurd refused
refused_restore before statement reply after restoring refused executed = absurd restoring

own_on : (Own Then : List Block → Type 0) → ((blocks : List Block) → Own blocks → Then blocks) → (blocks : Option (List Block))
    → IfSome blocks Own → IfSome blocks Then
own_on Own Then on None own = tt
own_on Own Then on (Some blocks) own = on blocks own

module _ (before : Database) (statement : StatementTree) (still : IsChanging statement → ⊥) (reply : Reply) (after : Database)
    (executed : Executes before statement reply after) (old new : Option (List Block)) (gone : IsRestored statement reply → new ≡ None)
    (kept : (IsRestored statement reply → ⊥) → new ≡ old) where
  -- where they stay they are those of the database after it, as those that there were are of the one before
  stayed_own : new ≡ old → ((blocks : List Block) → AreBlocksIn before blocks → AreBlocksIn after blocks) → IfSome old (AreBlocksIn before)
      → IfSome new (AreBlocksIn after)
  stayed_own same on own = subst (λ (o : Option (List Block)). IfSome o (AreBlocksIn after)) (sym same) (own_on (AreBlocksIn before) (AreBlocksIn after) on old own)

  pub left_own : IfSome old (AreBlocksIn before) → IfSome new (AreBlocksIn after)
  left_own own = elim (restores statement) [
    | inr other ↦ stayed_own (kept (λ h. other h.0)) (still_blocks before statement still other reply after executed) own
    | inl restoring ↦ elim (refuses reply) [
      | inr accepted ↦ subst (λ (o : Option (List Block)). IfSome o (AreBlocksIn after)) (sym (gone (restoring, accepted))) tt
      | inl refused ↦ stayed_own (kept (λ h. h.1 refused))
          (λ blocks are. subst (λ (d : Database). AreBlocksIn d blocks) (sym (refused_restore before statement reply after restoring refused executed)) are) own
    ]
  ]

  pub left_blocked : (IsOfBlocks statement → ⊥) → is_some new ≡ blocked_then (is_some old) statement reply
  left_blocked plain = elim (restores statement) [
    | inr other ↦ same_some new old (kept (λ h. other h.0))
        ∙ sym (still_then (is_some old) statement reply (still_blocked (is_some old) statement still other plain))
    | inl restoring ↦ elim (refuses reply) [
      | inr accepted ↦ same_some new None (gone (restoring, accepted)) ∙ sym (restored_then (is_some old) statement reply restoring accepted)
      | inl refused ↦ same_some new old (kept (λ h. h.1 refused)) ∙ sym (refused_then (is_some old) statement reply refused)
    ]
  ]

-- ---- a statement that lists changes
pub changing_blocked : (before : Bool) (statement : StatementTree) → IsChanging statement → blocked_by before statement ≡ false
changing_blocked before (t.load name literal) changing = refl
changing_blocked before (t.bind name path) changing = refl
changing_blocked before (t.unname name) changing = refl
changing_blocked before (t.assign target value tail) changing = refl
changing_blocked before (t.add_new target label literal tail) changing = refl
changing_blocked before (t.add_link target label right tail) changing = refl
changing_blocked before (t.remove target label right tail) changing = refl
changing_blocked before (t.generate seed count) changing = refl
changing_blocked before (t.restore text) changing = absurd changing
changing_blocked before t.blocks changing = absurd changing
changing_blocked before (t.blocks_of query) changing = absurd changing
changing_blocked before (t.select query) changing = absurd changing
changing_blocked before (t.explain query) changing = absurd changing
changing_blocked before t.guide changing = absurd changing
changing_blocked before (t.browse start labels) changing = absurd changing
changing_blocked before (t.sample start labels count) changing = absurd changing
changing_blocked before (t.set_nodes nodes) changing = absurd changing
changing_blocked before (t.set_plan mode) changing = absurd changing
changing_blocked before t.dump changing = absurd changing
changing_blocked before (t.history on) changing = absurd changing
changing_blocked before (t.select_at moment query) changing = absurd changing
changing_blocked before (t.changes first last) changing = absurd changing
changing_blocked before (t.watch name query) changing = absurd changing
changing_blocked before (t.unwatch name) changing = absurd changing
changing_blocked before (t.show name) changing = absurd changing

counted_blocked : (before : Bool) (statement : StatementTree) → IsChanging statement → (db : Database) (reply : Reply) → Counts db reply
    → false ≡ blocked_then before statement reply
counted_blocked before statement changing db reply counts =
    subst (λ (r : Reply). false ≡ blocked_then before statement r) (sym counts.2) (sym (changing_blocked before statement changing))

-- once its changes are made none are kept
pub changed_blocked : (before : Bool) (statement : StatementTree) → IsChanging statement → (db : Database) (reply : Reply) (new : Option (List Block))
    → Counts db reply → new ≡ None → is_some new ≡ blocked_then before statement reply
changed_blocked before statement changing db reply new counts gone = same_some new None gone ∙ counted_blocked before statement changing db reply counts

-- ---- what work on a statement leaves of them
-- whether they are kept behind it, and that nothing is read where they tell all
pub record LeavesBlocks (before after : Kept) (statement : StatementTree) (old now : ℕ) (result : Result Reply Stop) : Type 0 where
  pub blocked : IfOk result (λ reply. after.blocked ≡ blocked_then before.blocked statement reply)
  pub unread : OnReply result (BlocksTellAll before statement → now ≡ old)

-- a statement that doesn't ask them is told by none
pub unasked_tells : (kept : Kept) (statement : StatementTree) → (IsOfBlocks statement → ⊥) → BlocksTellAll kept statement → ⊥
unasked_tells kept t.blocks plain tells = plain tt
unasked_tells kept (t.blocks_of query) plain tells = plain tt
unasked_tells kept statement plain tells = tells

pub leaves_blocks : (before after : Kept) (statement : StatementTree) (old now : ℕ) (result : Result Reply Stop) → (IsOfBlocks statement → ⊥)
    → blocked_by before.blocked statement ≡ before.blocked → after.blocked ≡ before.blocked → LeavesBlocks before after statement old now result
leaves_blocks before after statement old now result plain stays same = record {
  blocked = stays_blocked before.blocked after.blocked statement result stays same;
  unread = on_reply_any result (BlocksTellAll before statement → now ≡ old) (λ tells. absurd (unasked_tells before statement plain tells));
}

-- ---- replies
pub replied_blocked : (before new : Bool) (statement : StatementTree) (done : Result Reply Stop) (result : Result Reply NoMemory)
    → IsRepliedTo done result → IfOk done (λ reply. new ≡ blocked_then before statement reply) → OnErr done (new ≡ before)
    → IfOk result (λ reply. new ≡ blocked_then before statement reply)
replied_blocked before new statement (Ok reply) result is told same =
    subst (λ (r : Result Reply NoMemory). IfOk r (λ answer. new ≡ blocked_then before statement answer)) (sym is) told
replied_blocked before new statement (Err (stop.Refused refusal)) result is told same =
    subst (λ (r : Result Reply NoMemory). IfOk r (λ answer. new ≡ blocked_then before statement answer)) (sym is) same
replied_blocked before new statement (Err stop.NoMemory) result is told same =
    subst (λ (r : Result Reply NoMemory). IfOk r (λ answer. new ≡ blocked_then before statement answer)) (sym is.1) tt
