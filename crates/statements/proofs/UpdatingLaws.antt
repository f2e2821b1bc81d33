-- Updates over their rows as pairs: what the targets are, what refuses the changes, and which they are.
use Rattle.std.proofs.Common.{◌≡◌, inl, inr, ℕ, List, [], map, Option, Some, sym, subst, ◌∙◌}
use Rattle.std.specs.Prelude.{MatchOption}
use Rattle.lore_base.specs.Databases.{OemGraph, Database, IsValid}
use Rattle.lore_base.specs.ChangeSets.{AreSame}
use Rattle.lore_base.specs.Verdicts.{IsClear, IsToldBy}
use Rattle.lorel_trees.specs.Trees.{SelectTree, StatementTree}
use Rattle.lorel_trees.specs.UpdateRows.{rows_of}
use Rattle.lorel_bind.specs.Answers.{IsAnswer}
use Rattle.lorel_bound.specs.Bound.{BoundTree}
use Rattle.lorel_bind.specs.Bindings.{IsBinding}
use Rattle.lorel_bound.specs.SlotRows.{IsSlotRow}
use Rattle.updates.specs.Effects.{Pair, changes_by}
use Rattle.updates.specs.Causes.{IsUpdate, HasTargets}
use Rattle.updates.specs.Causes as updating
use Rattle.answers.specs.Asked.{AreRows}
use Rattle.statements.specs.Types.{Oid, Cell, Changes, Refusal}
use Rattle.statements.specs.Forms.{reads}
use Rattle.statements.specs.Effects.{object_cells, pair_of, AreRowsOf}
use Rattle.statements.specs.Statements.{Cause, cause_order}
use Rattle.statements.specs.inside.Listed.{ListsChanges}
use Rattle.statements.specs.inside.Locals.{StopsRows}
use Rattle.statements.specs.inside.Stages.{ReadCause, bind_order, found_order}
use Rattle.statements.proofs.ObjectRowLaws.{answer_objects, changing_shows}
use Rattle.statements.proofs.CauseLaws.{update_changes, update_effects}
use Rattle.statements.proofs.EffectLaws.{rows_targets}
use Rattle.statements.proofs.SelectLaws.{rows_answer}
use Rattle.statements.proofs.UpdateLaws.{update_form, literal_stops, rows_stop, update_told, update_clear}

-- ---- the rows
module _ (db : Database) (statement : StatementTree) (update : IsUpdate statement) (query : SelectTree) (form : rows_of statement ≡ Some query)
    (bound : BoundTree) (binds : IsBinding db.graph.names query bound) where
  reading : reads statement ≡ Some query
  reading = update_form statement update ∙ form

  -- they are rows of objects
  pub rows_are : (rows : List (List Cell)) → AreRows (IsSlotRow db bound) rows
      → (objects : List (List Oid)) × AreRowsOf db statement objects × (rows ≡ map object_cells objects)
  rows_are rows all =
      let answer = rows_answer db query bound binds rows all in
      let found = answer_objects db query (changing_shows statement (update_changes statement update) query reading) rows answer in (
        found.0,
        subst (λ (o : Option SelectTree). MatchOption o (found.0 ≡ []) (λ q. IsAnswer db q (map object_cells found.0))) (sym reading)
            (subst (IsAnswer db query) found.1 answer),
        found.1,
      )

  pub rows_told : IsClear (ReadCause db query) bind_order → (told : Option Refusal) → StopsRows db statement bound told
      → IsToldBy (Cause db statement) found_order told
  rows_told clear told (inl h) = literal_stops db statement update query form clear told h
  rows_told clear told (inr h) = rows_stop db statement update query form clear bound binds h.0 told h.1

-- ---- the changes, over labels and a graph that are the database's
module _ (db : Database) (valid : IsValid db) (statement : StatementTree) (update : IsUpdate statement) (pairs : List Pair) (rows : List (List Oid))
    (are : AreRowsOf db statement rows) (is : pairs ≡ map pair_of rows) (clear : IsClear (Cause db statement) found_order)
    (table : List (List ℕ)) (graph : OemGraph) (labelled : table ≡ db.labels) (drawn : graph ≡ db.graph) where
  -- what holds of these holds of the database's, over the rows
  moved : (P : List (List ℕ) → OemGraph → List Pair → Type 0) → P table graph pairs → P db.labels db.graph (map pair_of rows)
  moved P h =
      subst (λ (l : List (List ℕ)). P l db.graph (map pair_of rows)) labelled
      (subst (λ (g : OemGraph). P table g (map pair_of rows)) drawn (subst (λ (l : List Pair). P table graph l) is h))

  pub pairs_targets : HasTargets graph pairs
  pairs_targets =
      subst (λ (g : OemGraph). HasTargets g pairs) (sym drawn)
      (subst (λ (l : List Pair). HasTargets db.graph l) (sym is) (rows_targets db valid statement update rows are clear))

  -- what refuses the changes before they are made
  pub pairs_told : (told : Option Refusal) → IsToldBy (updating.UpdateCause table graph statement pairs) (updating.update_order statement) told
      → IsToldBy (Cause db statement) cause_order told
  pairs_told told h =
      update_told db valid statement update rows are clear told
      (moved (λ l g p. IsToldBy (updating.UpdateCause l g statement p) (updating.update_order statement) told) h)

  pub pairs_list : (changes : Changes) → AreSame (changes_by table graph statement pairs) changes
      → IsClear (updating.UpdateCause table graph statement pairs) (updating.update_order statement) → ListsChanges db statement changes
  pairs_list changes same left = record {
    changing = update_changes statement update;
    rows = rows;
    are = are;
    same =
        subst (λ (all : Changes). AreSame all changes) (update_effects db statement update rows)
        (moved (λ l g p. AreSame (changes_by l g statement p) changes) same);
    clear =
        update_clear db valid statement update rows are clear
        (moved (λ l g p. IsClear (updating.UpdateCause l g statement p) (updating.update_order statement)) left);
  }
