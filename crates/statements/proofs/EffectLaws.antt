-- What a statement changes fits the database, where no cause applies that is tried before the changes are made.
use Rattle.std.proofs.Common.{◌≡◌, ℕ, List, [], ◌∷◌, map, Option, Some, None, refl, sym, inl, inr, ◌∙◌, arith}
use Rattle.std.specs.Prelude.{pos}
use Rattle.std.specs.List.{Contains}
use Rattle.lore_base.specs.Names.{IsNameTable, object_of}
use Rattle.lore_base.specs.Databases.{Database, IsValid}
use Rattle.lore_base.specs.ChangeSets.{IsBound, Fits}
use Rattle.lore_base.specs.Verdicts.{IsClear}
use Rattle.lore_base.proofs.NameLaws.{found_bound, bound_found}
use Rattle.list_laws.proofs.MemberLaws.{Contains-map}
use Rattle.oem_text.proofs.NumberedLaws.{length-objects_of}
use Rattle.lorel_trees.specs.Trees as t
use Rattle.lorel_trees.specs.Trees.{StatementTree, RootedTree, TailTree}
use Rattle.lorel_trees.specs.Formed.{IsFormedStatement}
use Rattle.lorel_trees.specs.UpdateRows.{target_select, pair_select}
use Rattle.lorel_bind.specs.Answers.{IsAnswer}
use Rattle.lorel_bind.specs.Refusals.{HasUnknownName, HasUnknownVariable}
use Rattle.updates.specs.Effects.{targets}
use Rattle.updates.specs.Causes.{IsUpdate, HasTargets}
use Rattle.statements.specs.Types.{Oid, FEWEST_PERSONS, MOST_PERSONS}
use Rattle.statements.specs.Forms.{MakesChanges}
use Rattle.statements.specs.Effects.{object_cells, pair_of, AreRowsOf, effects}
use Rattle.statements.specs.Statements.{Cause}
use Rattle.statements.specs.inside.Stages.{found_order, fit_order}
use Rattle.statements.proofs.FitLaws.{nothing_fits, name_fits, unname_fits, assign_fits, link_fits, unlink_fits, load_fits}
use Rattle.statements.proofs.CopyFitLaws.{copy_fits}
use Rattle.statements.proofs.GeneratedFitLaws.{generated_fits}
use Rattle.statements.proofs.RangeLaws.{pos_within}
use Rattle.statements.proofs.LiveRowLaws.{starts_somewhere, IsOneCell, AreTwoCells, one_cell, two_cells, one_targets, two_targets, two_rights, live_targets, targets_once}

some_none : (oid : Oid) → Some oid ≡ None → ⊥
some_none oid same = cc

-- a name that isn't unbound is bound
pub bound_or_not : (names : List (List ℕ × Oid)) (name : List ℕ) → IsNameTable names → ((IsBound names name → ⊥) → ⊥) → IsBound names name
bound_or_not names name table h = by (object_of names name) refl
  where
    by : (found : Option Oid) → object_of names name ≡ found → IsBound names name
    by (Some oid) is = (oid, found_bound names name oid is)
    by None is = absurd (h (λ bound. some_none bound.0 (sym (bound_found names name bound.0 table bound.1) ∙ is)))

module _ (db : Database) (valid : IsValid db) where
  -- ---- rows of the select of an update
  module _ (target : RootedTree) (tail : TailTree) (rows : List (List Oid)) where
    one_celled : IsAnswer db (target_select target tail) (map object_cells rows) → (HasUnknownName db.graph.names (target_select target tail) → ⊥)
        → (HasUnknownVariable db.graph.names (target_select target tail) → ⊥) → (row : List Oid) → Contains rows row → IsOneCell db row
    one_celled answer known ranged row there =
        one_cell db valid target tail (starts_somewhere db.graph.names (target_select target tail) known ranged) row
        ((answer.exact (object_cells row)).0 (Contains-map object_cells rows row there))

    two_celled : (right : RootedTree) → IsAnswer db (pair_select target right tail) (map object_cells rows)
        → (HasUnknownName db.graph.names (pair_select target right tail) → ⊥) → (HasUnknownVariable db.graph.names (pair_select target right tail) → ⊥)
        → (row : List Oid) → Contains rows row → AreTwoCells db row
    two_celled right answer known ranged row there =
        two_cells db valid target tail right (starts_somewhere db.graph.names (pair_select target right tail) known ranged) row
        ((answer.exact (object_cells row)).0 (Contains-map object_cells rows row there))

  -- ---- each form
  pub effects_fit : (statement : StatementTree) → IsFormedStatement statement → (rows : List (List Oid)) → AreRowsOf db statement rows
      → MakesChanges statement → IsClear (Cause db statement) fit_order → Fits db (effects db statement rows)
  effects_fit (t.load name literal) formed rows are changing
      (built, (known, (ranged, (twice, (many, (double, (undefined, (flood, (single, (atomic, (hidden, (spent, (full, end))))))))))))) =
      load_fits db valid name literal formed.0 formed.1 undefined
      (λ over. (let count = length-objects_of db.graph.next literal in spent (tt, (rows, are, omega (arith, over, count))))) (λ over. full (tt, (rows, are, over)))
  effects_fit (t.bind name path) formed rows are changing
      (built, (known, (ranged, (twice, (many, (double, (undefined, (flood, (single, (atomic, (hidden, (spent, (full, end))))))))))))) =
      name_fits db valid name (map pair_of rows) formed.0
      (one_targets db rows (one_celled path (record { ranges = []; cond = None }) rows are (λ h. known (inr h)) ranged))
  effects_fit (t.unname name) formed rows are changing
      (built, (known, (ranged, (twice, (many, (double, (undefined, (flood, (single, (atomic, (hidden, (spent, (full, end))))))))))))) =
      unname_fits db valid name (bound_or_not db.graph.names name valid.restorable.rooted.well_formed.ordered.names_ascend (λ unbound. known (inl unbound)))
  effects_fit (t.assign target value tail) formed (row ∷ rows) are changing
      (built, (known, (ranged, (twice, (many, (double, (undefined, (flood, (single, (atomic, (hidden, (spent, (full, end))))))))))))) =
      let cells = one_celled target tail (row ∷ rows) are (λ h. known (inr h)) ranged in
      assign_fits db valid value (targets (map pair_of (row ∷ rows))) formed.1
      (live_targets db (map pair_of (row ∷ rows)) (one_targets db (row ∷ rows) cells))
      (targets_once db (row ∷ rows) are.ascending cells) (λ hides. hidden (tt, (row ∷ rows, are, hides)))
  effects_fit (t.add_new target label literal tail) formed (row ∷ rows) are changing
      (built, (known, (ranged, (twice, (many, (double, (undefined, (flood, (single, (atomic, (hidden, (spent, (full, end))))))))))))) =
      let cells = one_celled target tail (row ∷ rows) are (λ h. known (inr h)) ranged in
      copy_fits db valid literal label (targets (map pair_of (row ∷ rows))) formed.1 formed.2 undefined
      (live_targets db (map pair_of (row ∷ rows)) (one_targets db (row ∷ rows) cells))
      (λ adds. atomic (tt, (row ∷ rows, are, adds))) (λ over. spent (tt, (row ∷ rows, are, over))) (λ over. full (tt, (row ∷ rows, are, over)))
  effects_fit (t.add_link target label right tail) formed (row ∷ rows) are changing
      (built, (known, (ranged, (twice, (many, (double, (undefined, (flood, (single, (atomic, (hidden, (spent, (full, end))))))))))))) =
      let cells = two_celled target tail (row ∷ rows) right are (λ h. known (inr h)) ranged in
      link_fits db valid label (map pair_of (row ∷ rows)) formed.1 (two_targets db (row ∷ rows) cells) (two_rights db (row ∷ rows) cells)
      (λ adds. atomic (tt, (row ∷ rows, are, adds))) (λ over. full (tt, (row ∷ rows, are, over)))
  effects_fit (t.remove target label right tail) formed (row ∷ rows) are changing
      (built, (known, (ranged, (twice, (many, (double, (undefined, (flood, (single, (atomic, (hidden, (spent, (full, end))))))))))))) =
      let cells = two_celled target tail (row ∷ rows) right are (λ h. known (inr h)) ranged in
      unlink_fits db valid label (map pair_of (row ∷ rows)) (two_targets db (row ∷ rows) cells) (two_rights db (row ∷ rows) cells)
  effects_fit (t.generate (pos seed) (pos count)) formed rows are changing clear =
      let persons = pos_within FEWEST_PERSONS MOST_PERSONS count changing.1 in
      generated_fits db valid seed count persons.0 persons.1 (λ over. clear.1.1.1.1.1.1.1.1.1.1.1.0 (changing, (rows, are, over)))
      (λ over. clear.1.1.1.1.1.1.1.1.1.1.1.1.0 (changing, (rows, are, over)))
  effects_fit statement formed [] are changing clear = nothing_fits db valid
  effects_fit statement formed (row ∷ rows) are changing clear = nothing_fits db valid

  -- the rows of an update have live targets
  pub rows_targets : (statement : StatementTree) → IsUpdate statement → (rows : List (List Oid)) → AreRowsOf db statement rows
      → IsClear (Cause db statement) found_order → HasTargets db.graph (map pair_of rows)
  rows_targets (t.assign target value tail) update rows are (built, (known, (ranged, others))) =
      one_targets db rows (one_celled target tail rows are (λ h. known (inr h)) ranged)
  rows_targets (t.add_new target label literal tail) update rows are (built, (known, (ranged, others))) =
      one_targets db rows (one_celled target tail rows are (λ h. known (inr h)) ranged)
  rows_targets (t.add_link target label right tail) update rows are (built, (known, (ranged, others))) =
      two_targets db rows (two_celled target tail rows right are (λ h. known (inr h)) ranged)
  rows_targets (t.remove target label right tail) update rows are (built, (known, (ranged, others))) =
      two_targets db rows (two_celled target tail rows right are (λ h. known (inr h)) ranged)
  rows_targets _ update rows are clear = absurd (update refl)
