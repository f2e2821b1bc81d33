-- Executions of statements: a select that answers, and changes that are made.
use Rattle.std.proofs.Common.{◌≡◌, inl, inr, List, ◌∷◌, ◌++◌, Option, Result, Ok, Err, IfOk, refl, sym, subst}
use Rattle.std.specs.Prelude.{IfErr, OnOk, OnErr}
use Rattle.lore_base.specs.Databases.{Database, IsValid}
use Rattle.lore_base.specs.ChangeSets.{Fits, IsAfter, AreSame}
use Rattle.lore_base.specs.ChangeCauses.{DatabaseCause}
use Rattle.lore_base.specs.Verdicts.{IsClear, IsToldBy}
use Rattle.lore_base.specs.Types.{NoMemory}
use Rattle.lore_base.proofs.VerdictLaws.{clear_both}
use Rattle.oem_changes.proofs.SameLaws.{same-back, Fits-same, IsAfter-same}
use Rattle.lorel_trees.specs.Trees as t
use Rattle.lorel_trees.specs.Trees.{SelectTree, StatementTree}
use Rattle.lorel_trees.specs.Formed.{IsFormedStatement}
use Rattle.lorel_bind.specs.Answers.{IsAnswer}
use Rattle.statements.specs.Types.{Cell, Changes, Refusal, Reply, Rows}
use Rattle.statements.specs.Types.refusals
use Rattle.statements.specs.Forms.{MakesChanges, IsChanging}
use Rattle.statements.specs.Effects.{effects}
use Rattle.statements.specs.Statements.{Cause, cause_order, Counts, MakesItsChanges, Fulfils, Executes}
use Rattle.statements.specs.Made.{IsMade}
use Rattle.statements.specs.Uncounted.{ReadsNoEdge}
use Rattle.statements.specs.inside.Listed.{ListsChanges}
use Rattle.statements.specs.inside.Stages.{ReadCause, read_order, found_order, change_order}
use Rattle.statements.specs.Stops.{told, OnReply, IsRepliedTo}
use Rattle.statements.specs.declared.stops.Stop.{Stop}
use Rattle.statements.specs.declared.stops.Stop.TheVariants as stop
use Rattle.statements.proofs.OrderLaws.{told_left}
use Rattle.statements.proofs.ReadLaws.{read_found, read_clear}
use Rattle.statements.proofs.CauseLaws.{early, sizes, late, sizes_told, sizes_clear, changing_late}
use Rattle.statements.proofs.QuietLaws.{no_locals, no_changes}
use Rattle.statements.proofs.EffectLaws.{effects_fit}

-- ---- selects
module _ (db : Database) (query : SelectTree) where
  select_behind : IsClear (Cause db (t.select query)) change_order
  select_behind =
      clear_both (Cause db (t.select query)) (refusals.NotOne ∷ (early ++ sizes)) late
      (no_changes db (t.select query) (λ h. h)) (λ h. h, (λ h. h, (λ h. h, tt)))

  pub select_performs : (rows : List (List Cell)) → IsClear (ReadCause db query) read_order → IsAnswer db query rows
      → Executes db (t.select query) (Rows rows) db
  select_performs rows clear answer =
      inl (
        clear_both (Cause db (t.select query)) found_order change_order
            (read_clear db (t.select query) query refl (λ h. h) refl (no_locals db (t.select query) (λ h. h)) clear) select_behind,
        (refl, (rows, refl, answer)),
      )

  pub select_told : (told : Option Refusal) → IsToldBy (ReadCause db query) read_order told → IsToldBy (Cause db (t.select query)) cause_order told
  select_told told h =
      told_left (Cause db (t.select query)) found_order change_order told
      (read_found db (t.select query) query refl (λ h. h) refl (no_locals db (t.select query) (λ h. h)) told h)

-- and selects by blocks
module _ (db : Database) (query : SelectTree) where
  blocks_behind : IsClear (Cause db (t.blocks_of query)) change_order
  blocks_behind =
      clear_both (Cause db (t.blocks_of query)) (refusals.NotOne ∷ (early ++ sizes)) late
      (no_changes db (t.blocks_of query) (λ h. h)) (λ h. h, (λ h. h, (λ h. h, tt)))

  pub blocks_performs : (rows : List (List Cell)) → IsClear (ReadCause db query) read_order → IsAnswer db query rows
      → Executes db (t.blocks_of query) (Rows rows) db
  blocks_performs rows clear answer =
      inl (
        clear_both (Cause db (t.blocks_of query)) found_order change_order
            (read_clear db (t.blocks_of query) query refl (λ h. h) refl (no_locals db (t.blocks_of query) (λ h. h)) clear) blocks_behind,
        (refl, (rows, refl, answer)),
      )

  pub blocks_told : (told : Option Refusal) → IsToldBy (ReadCause db query) read_order told → IsToldBy (Cause db (t.blocks_of query)) cause_order told
  blocks_told told h =
      told_left (Cause db (t.blocks_of query)) found_order change_order told
      (read_found db (t.blocks_of query) query refl (λ h. h) refl (no_locals db (t.blocks_of query) (λ h. h)) told h)

-- ---- changes
-- changes that are equal list the same
pub same_as : (a b : Changes) → b ≡ a → AreSame a b
same_as a b is = subst (λ (c : Changes). AreSame a c) (sym is) (record {
  made = refl;
  values = refl;
  added = λ edge. (λ h. h, λ h. h);
  removed = λ edge. (λ h. h, λ h. h);
  named = refl;
  unnamed = refl;
  labels = refl;
})

-- what a statement does where it makes changes
changing_performs : (db : Database) (statement : StatementTree) → MakesChanges statement → (reply : Reply) (after : Database)
    → MakesItsChanges db statement reply after → Fulfils db statement reply after
changing_performs db (t.load name literal) changing reply after h = h
changing_performs db (t.bind name path) changing reply after h = h
changing_performs db (t.unname name) changing reply after h = h
changing_performs db (t.assign target value tail) changing reply after h = h
changing_performs db (t.add_new target label literal tail) changing reply after h = h
changing_performs db (t.add_link target label right tail) changing reply after h = h
changing_performs db (t.remove target label right tail) changing reply after h = h
changing_performs db (t.generate seed count) changing reply after h = h
changing_performs db _ changing reply after h = absurd changing

module _ (db : Database) (statement : StatementTree) (changes : Changes) (lists : ListsChanges db statement changes) where
  pub changes_fit : IsValid db → IsFormedStatement statement → Fits db changes
  changes_fit valid formed =
      Fits-same (effects db statement lists.rows) changes lists.same db
      (effects_fit db valid statement formed lists.rows lists.are lists.changing lists.clear)

  -- what refuses the changes refuses the statement
  pub changes_told : (told : Option Refusal) → IsToldBy (DatabaseCause db changes) sizes told → IsToldBy (Cause db statement) cause_order told
  changes_told told h = sizes_told db statement lists.rows lists.are changes lists.same lists.changing told lists.clear h

  pub changes_made : (after : Database) → IsClear (DatabaseCause db changes) sizes → IsAfter db changes after → IsMade db statement after
  changes_made after left is =
      let same = same-back (effects db statement lists.rows) changes lists.same in record {
        changing = lists.changing;
        clear = sizes_clear db statement lists.rows lists.are changes lists.same lists.changing (changing_late db statement lists.changing) lists.clear left;
        rows = lists.rows;
        are = lists.are;
        is = IsAfter-same changes (effects db statement lists.rows) same db after is;
      }

-- what a statement makes of the database, and the reply that counts what there is then, is an execution
pub made_executes : (db : Database) (statement : StatementTree) (after : Database) (reply : Reply) → IsMade db statement after → Counts after reply
    → Executes db statement reply after
made_executes db statement after reply made counts =
    inl (made.clear, changing_performs db statement made.changing reply after ((made.rows, made.are, made.is), counts))

-- one of such a form for which no step is counted makes none
pub uncounted_change : (db : Database) (statement : StatementTree) → IsChanging statement → ReadsNoEdge db statement → MakesChanges statement → ⊥
uncounted_change db (t.select query) form quiet changing = form
uncounted_change db (t.explain query) form quiet changing = form
uncounted_change db t.guide form quiet changing = form
uncounted_change db (t.browse start labels) form quiet changing = form
uncounted_change db (t.sample start labels count) form quiet changing = form
uncounted_change db (t.set_nodes nodes) form quiet changing = form
uncounted_change db (t.set_plan mode) form quiet changing = form
uncounted_change db (t.generate seed count) form quiet changing = quiet changing
uncounted_change db (t.history on) form quiet changing = form
uncounted_change db (t.select_at moment query) form quiet changing = form
uncounted_change db (t.changes first last) form quiet changing = form
uncounted_change db t.blocks form quiet changing = form
uncounted_change db (t.blocks_of query) form quiet changing = form
uncounted_change db (t.watch name query) form quiet changing = form
uncounted_change db (t.unwatch name) form quiet changing = form
uncounted_change db (t.show name) form quiet changing = form
uncounted_change db _ form quiet changing = quiet

-- ---- replies
-- what stays is the same, whatever the answer
pub unchanged : {T : Type 0} (done : Result T Stop) (db : Database) → OnErr done (db ≡ db)
unchanged (Ok value) db = tt
unchanged (Err stop) db = refl

-- what stays where work ends early, and what follows of it
pub on_err_weaker : {T E : Type 0} (result : Result T E) (Holds Follows : Type 0) → (Holds → Follows) → OnErr result Holds → OnErr result Follows
on_err_weaker (Ok value) Holds Follows gives h = tt
on_err_weaker (Err error) Holds Follows gives h = gives h

-- what is replied where work on a statement ends is an execution
pub replied : (before after : Database) (statement : StatementTree) (done : Result Reply Stop) (result : Result Reply NoMemory) → IsRepliedTo done result
    → IfOk done (λ reply. Executes before statement reply after) → OnErr done (after ≡ before)
    → IfErr done (λ stop. IsToldBy (Cause before statement) cause_order (told stop)) → IfOk result (λ reply. Executes before statement reply after)
replied before after statement (Ok reply) result is executed same refused =
    subst (λ (r : Result Reply NoMemory). IfOk r (λ answer. Executes before statement answer after)) (sym is) executed
replied before after statement (Err (stop.Refused refusal)) result is executed same refused =
    subst (λ (r : Result Reply NoMemory). IfOk r (λ answer. Executes before statement answer after)) (sym is) (inr (refusal, refused, (refl, same)))
replied before after statement (Err stop.NoMemory) result is executed same refused =
    subst (λ (r : Result Reply NoMemory). IfOk r (λ answer. Executes before statement answer after)) (sym is.1) tt

-- what holds where work ends with a reply or a refusal holds where it is replied
pub replied_on : (done : Result Reply Stop) (result : Result Reply NoMemory) → IsRepliedTo done result → (Holds : Type 0) → OnReply done Holds
    → OnOk result Holds
replied_on (Ok reply) result is Holds h = subst (λ (r : Result Reply NoMemory). OnOk r Holds) (sym is) h
replied_on (Err (stop.Refused refusal)) result is Holds h = subst (λ (r : Result Reply NoMemory). OnOk r Holds) (sym is) h
replied_on (Err stop.NoMemory) result is Holds h = subst (λ (r : Result Reply NoMemory). OnOk r Holds) (sym is.1) tt
