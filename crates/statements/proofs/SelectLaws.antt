-- The rows of a select: what a plan finds is its answer.
use Rattle.std.proofs.Common.{◌≡◌, List, [], ◌∷◌, Option, Some, None, inl}
use Rattle.std.specs.List.{Contains}
use Rattle.std.specs.Prelude.{IfSome}
use Rattle.std.proofs.lemmas.List.Elements.{All-weaker}
use Rattle.lore_base.specs.Databases.{Database}
use Rattle.lore_base.specs.Verdicts.{IsClear, IsToldBy}
use Rattle.lore_base.proofs.VerdictLaws.{clear_both}
use Rattle.lorel_trees.specs.Trees as t
use Rattle.lorel_bind.specs.Answers.{IsAnswer}
use Rattle.lorel_bound.specs.Bound.{BoundTree}
use Rattle.lorel_bind.specs.Bindings.{IsBinding}
use Rattle.lorel_bound.specs.SlotRows.{IsSlotRow}
use Rattle.bind_laws.proofs.SlotRowLaws.{binding_keeps_rows}
use Rattle.answers.specs.Asked.{AreRows, AreTooMany}
use Rattle.statements.specs.Types.{Cell, Refusal}
use Rattle.statements.specs.Types.refusals
use Rattle.statements.specs.Statements.{HasTooManyRows}
use Rattle.statements.specs.inside.Stages.{ReadCause, bind_order, read_order}
use Rattle.statements.proofs.OrderLaws.{told_right}
use Rattle.statements.proofs.ReadLaws.{few_rows, many_rows, accepted_from}

-- ---- the answer
module _ (db : Database) (query : t.SelectTree) (bound : BoundTree) (binds : IsBinding db.graph.names query bound) where
  -- the rows that were found are the answer
  pub rows_answer : (rows : List (List Cell)) → AreRows (IsSlotRow db bound) rows → IsAnswer db query rows
  rows_answer rows all =
      let keeps = binding_keeps_rows db query bound binds in
      record {
        ascending = all.ascending;
        exact = λ row. (λ h. (keeps row).1 ((all.exact row).0 h), λ h. (all.exact row).1 ((keeps row).0 h));
      }

  module _ (clear : IsClear (ReadCause db query) bind_order) where
    -- there are too many
    pub rows_flood : AreTooMany (IsSlotRow db bound) → HasTooManyRows db query
    rows_flood many =
        let keeps = binding_keeps_rows db query bound binds in
        let there = λ (answer : List (List Cell)) (is : IsAnswer db query answer).
        All-weaker (IsSlotRow db bound) (Contains answer) (λ row h. (is.exact row).1 ((keeps row).1 h)) many.rows many.asked in
        many_rows db query many.rows (accepted_from db query clear) many.apart there many.many

    pub rows_clear : (rows : List (List Cell)) → AreRows (IsSlotRow db bound) rows → IsClear (ReadCause db query) read_order
    rows_clear rows all =
        clear_both (ReadCause db query) bind_order (refusals.TooManyRows ∷ []) clear
        (few_rows db query rows (rows_answer rows all) all.few, tt)

    pub rows_told : (told : Option Refusal)
        → IfSome told (λ refusal. (refusal ≡ refusals.TooManyRows) × AreTooMany (IsSlotRow db bound)) → IsToldBy (ReadCause db query) read_order told
    rows_told None h = tt
    rows_told (Some refusal) h =
        told_right (ReadCause db query) bind_order (refusals.TooManyRows ∷ []) (Some refusal) clear (inl (rows_flood h.1, h.0))
