-- Updates: what refuses one before its rows are found, with them, and what refuses its changes.
use Rattle.std.proofs.Common.{◌≡◌, ◌↔◌, List, [], ◌∷◌, ◌++◌, map, Option, Some, None, refl, sym, subst, ◌∙◌}
use Rattle.std.specs.Prelude.{MatchOption, IfSome}
use Rattle.lore_base.specs.Databases.{Database, IsValid}
use Rattle.lore_base.specs.ChangeCauses.{DatabaseCause}
use Rattle.lore_base.specs.Verdicts.{IsClear, IsToldBy}
use Rattle.lore_base.proofs.VerdictLaws.{clear_both, clear_left, clear_right}
use Rattle.lorel_trees.specs.Trees as t
use Rattle.lorel_trees.specs.Trees.{StatementTree, SelectTree, LiteralTree}
use Rattle.lorel_trees.specs.UpdateRows.{rows_of}
use Rattle.lorel_bound.specs.Bound.{BoundTree}
use Rattle.lorel_bind.specs.Bindings.{IsBinding}
use Rattle.lorel_bound.specs.SlotRows.{IsSlotRow}
use Rattle.oem_text.specs.Literals.{HasDouble, HasUndefined}
use Rattle.oem_text.specs.Parts.{LocalCause, local_order}
use Rattle.updates.specs.Effects.{Pair, changes_by}
use Rattle.updates.specs.Causes.{IsUpdate, OfLiteral}
use Rattle.updates.specs.Causes as updating
use Rattle.answers.specs.Asked.{AreRows, AreTooMany}
use Rattle.statements.specs.Types.{Oid, Cell, Changes, Refusal}
use Rattle.statements.specs.Types.refusals
use Rattle.statements.specs.Forms.{counted_rows, reads, binds, makes}
use Rattle.statements.specs.Effects.{pair_of, AreRowsOf}
use Rattle.statements.specs.Statements.{OfMakes, ChangesCause, Cause, cause_order}
use Rattle.statements.specs.inside.Stages.{ReadCause, bind_order, bound_order, found_order, fit_order}
use Rattle.statements.proofs.OrderLaws.{AreAlike, told_left, told_right, told_between, told_behind, clear_alike, told_alike}
use Rattle.statements.proofs.ChangedCauseLaws.{few_names}
use Rattle.statements.proofs.ReadLaws.{read_binds, read_bound, read_found, read_clear}
use Rattle.statements.proofs.SelectLaws.{rows_clear, rows_told}
use Rattle.statements.proofs.CauseLaws.{locals, sizes, late, early, over_rows, update_changes, update_names, update_single, update_effects, update_named}

-- ---- the select
pub update_form : (statement : StatementTree) → IsUpdate statement → reads statement ≡ rows_of statement
update_form (t.assign target value tail) update = refl
update_form (t.add_new target label literal tail) update = refl
update_form (t.add_link target label right tail) update = refl
update_form (t.remove target label right tail) update = refl
update_form _ update = absurd (update refl)

update_counts : (statement : StatementTree) → IsUpdate statement → counted_rows statement ≡ rows_of statement
update_counts (t.assign target value tail) update = refl
update_counts (t.add_new target label literal tail) update = refl
update_counts (t.add_link target label right tail) update = refl
update_counts (t.remove target label right tail) update = refl
update_counts _ update = absurd (update refl)

update_binds : (statement : StatementTree) → IsUpdate statement → binds statement ≡ rows_of statement
update_binds (t.assign target value tail) update = refl
update_binds (t.add_new target label literal tail) update = refl
update_binds (t.add_link target label right tail) update = refl
update_binds (t.remove target label right tail) update = refl
update_binds _ update = absurd (update refl)

-- ---- locals
locals_clear : (literal : Option LiteralTree) → MatchOption literal (Unit {0}) (λ tree. IsClear (LocalCause tree) local_order)
    → (MatchOption literal ⊥ HasDouble → ⊥) × ((MatchOption literal ⊥ HasUndefined → ⊥) × Unit {0})
locals_clear None clear = (λ h. h, (λ h. h, tt))
locals_clear (Some tree) clear = clear

module _ (db : Database) (statement : StatementTree) where
  pub literal_clear : MatchOption (makes statement) (Unit {0}) (λ tree. IsClear (LocalCause tree) local_order) → IsClear (Cause db statement) locals
  literal_clear clear = locals_clear (makes statement) clear

  literal_alike : AreAlike (λ refusal. MatchOption (makes statement) ⊥ (λ tree. LocalCause tree refusal)) (Cause db statement) local_order
  literal_alike = ((λ h. h, λ h. h), ((λ h. h, λ h. h), tt))

  pub literal_told : (told : Option Refusal) → IsToldBy (λ refusal. MatchOption (makes statement) ⊥ (λ tree. LocalCause tree refusal)) local_order told
      → IsToldBy (Cause db statement) locals told
  literal_told told h =
      told_alike (λ refusal. MatchOption (makes statement) ⊥ (λ tree. LocalCause tree refusal)) (Cause db statement) local_order told literal_alike h

-- ---- before the changes
module _ (db : Database) (statement : StatementTree) (update : IsUpdate statement) (query : SelectTree) (form : rows_of statement ≡ Some query) where
  counting : counted_rows statement ≡ Some query
  counting = update_counts statement update ∙ form

  bound_select : binds statement ≡ Some query
  bound_select = update_binds statement update ∙ form

  pub bind_stops : (told : Option Refusal) → IsToldBy (ReadCause db query) bind_order told → IsToldBy (Cause db statement) found_order told
  bind_stops told h =
      told_left (Cause db statement) bound_order (locals ++ refusals.TooManyRows ∷ []) told
      (read_binds db statement query bound_select (update_names db statement update) told h)

  module _ (clear : IsClear (ReadCause db query) bind_order) where
    pub literal_stops : (told : Option Refusal) → IsToldBy (λ refusal. MatchOption (makes statement) ⊥ (λ tree. LocalCause tree refusal)) local_order told
        → IsToldBy (Cause db statement) found_order told
    literal_stops told h =
        told_right (Cause db statement) bound_order (locals ++ refusals.TooManyRows ∷ []) told
        (read_bound db statement query bound_select (update_names db statement update) clear)
        (told_left (Cause db statement) locals (refusals.TooManyRows ∷ []) told (literal_told db statement told h))

    module _ (bound : BoundTree) (binds : IsBinding db.graph.names query bound)
        (sound : MatchOption (makes statement) (Unit {0}) (λ tree. IsClear (LocalCause tree) local_order)) where
      pub rows_stop : (told : Option Refusal)
          → IfSome told (λ refusal. (refusal ≡ refusals.TooManyRows) × AreTooMany (IsSlotRow db bound)) → IsToldBy (Cause db statement) found_order told
      rows_stop told h =
          read_found db statement query bound_select (update_names db statement update) counting
          (literal_clear db statement sound) told (rows_told db query bound binds clear told h)

      pub rows_go : (rows : List (List Cell)) → AreRows (IsSlotRow db bound) rows → IsClear (Cause db statement) found_order
      rows_go rows all =
          read_clear db statement query bound_select (update_names db statement update) counting
          (literal_clear db statement sound) (rows_clear db query bound binds clear rows all)

-- ---- the changes
abbrev large : List Refusal
large = refusals.TooManyObjects ∷ refusals.TooManyEdges ∷ []

abbrev guided : List Refusal
guided = refusals.GuideNodes ∷ refusals.GuideCells ∷ late

of_literal : (statement : StatementTree) (Has : LiteralTree → Type 0) → OfLiteral statement Has → OfMakes statement Has
of_literal (t.add_new target label literal tail) Has h = h
of_literal _ Has h = absurd h

module _ (db : Database) (valid : IsValid db) (statement : StatementTree) (update : IsUpdate statement) (rows : List (List Oid))
    (are : AreRowsOf db statement rows) (clear : IsClear (Cause db statement) found_order) where
  abbrev pairs : List Pair
  pairs = map pair_of rows

  abbrev given : Changes
  given = changes_by db.labels db.graph statement pairs

  abbrev Told : Refusal → Type 0
  Told = updating.UpdateCause db.labels db.graph statement pairs

  its : (refusal : Refusal) → DatabaseCause db given refusal ↔ ChangesCause db statement refusal
  its refusal =
      let same = update_effects db statement update rows in
      let over = over_rows db statement rows are refusal in (
        λ h. (update_changes statement update, over.0 (subst (λ (c : Changes). DatabaseCause db c refusal) same h)),
        λ h. subst (λ (c : Changes). DatabaseCause db c refusal) (sym same) (over.1 h.1),
      )

  early_alike : AreAlike Told (Cause db statement) early
  early_alike = (its refusals.AtomicParent, (its refusals.HasChildren, (its refusals.OidsSpent, (its refusals.TooManyLabels, tt))))

  all_alike : AreAlike Told (Cause db statement) (early ++ large)
  all_alike = (
    its refusals.AtomicParent,
    (its refusals.HasChildren, (its refusals.OidsSpent, (its refusals.TooManyLabels, (its refusals.TooManyObjects, (its refusals.TooManyEdges, tt))))),
  )

  sound_locals : IsClear Told locals
  sound_locals =
      let both = clear_left (Cause db statement) locals (refusals.TooManyRows ∷ [])
      (clear_right (Cause db statement) bound_order (locals ++ refusals.TooManyRows ∷ []) clear) in
      (λ h. both.0 (of_literal statement HasDouble h), (λ h. both.1.0 (of_literal statement HasUndefined h), tt))

  single : IsClear (Cause db statement) (refusals.NotOne ∷ [])
  single = (update_single db statement update, tt)

  names_stay : IsClear (Cause db statement) (refusals.TooManyNames ∷ [])
  names_stay =
      let kept = update_named db.labels db statement pairs in
      (λ h. few_names db.graph given kept.0 kept.1 valid.restorable.rooted.well_formed.ordered.names_ascend valid.restorable.few_names ((its refusals.TooManyNames).1 h), tt)

  plain_told : (told : Option Refusal) → IsToldBy Told (locals ++ early) told → IsToldBy (Cause db statement) cause_order told
  plain_told told h =
      told_right (Cause db statement) found_order (refusals.NotOne ∷ (early ++ (sizes ++ late))) told clear
      (told_right (Cause db statement) (refusals.NotOne ∷ []) (early ++ (sizes ++ late)) told single
      (told_left (Cause db statement) early (sizes ++ late) told
      (told_alike Told (Cause db statement) early told early_alike (told_behind Told locals early told sound_locals h))))

  copy_told : (told : Option Refusal) → IsToldBy Told (locals ++ (early ++ large)) told → IsToldBy (Cause db statement) cause_order told
  copy_told told h =
      told_right (Cause db statement) found_order (refusals.NotOne ∷ (early ++ (sizes ++ late))) told clear
      (told_right (Cause db statement) (refusals.NotOne ∷ []) (early ++ (sizes ++ late)) told single
      (told_between (Cause db statement) early (refusals.TooManyNames ∷ []) (large ++ guided) told names_stay
      (told_left (Cause db statement) (early ++ large) guided told
      (told_alike Told (Cause db statement) (early ++ large) told all_alike (told_behind Told locals (early ++ large) told sound_locals h)))))

  early_clear : IsClear Told early → IsClear (Cause db statement) fit_order
  early_clear h =
      clear_both (Cause db statement) found_order (refusals.NotOne ∷ early) clear
      (clear_both (Cause db statement) (refusals.NotOne ∷ []) early single (clear_alike Told (Cause db statement) early early_alike h))

-- what refuses the changes of an update, over its rows
pub update_told : (db : Database) → IsValid db → (statement : StatementTree) → IsUpdate statement → (rows : List (List Oid)) → AreRowsOf db statement rows
    → IsClear (Cause db statement) found_order → (told : Option Refusal)
    → IsToldBy (updating.UpdateCause db.labels db.graph statement (map pair_of rows)) (updating.update_order statement) told → IsToldBy (Cause db statement) cause_order told
update_told db valid (t.assign target value tail) update rows are clear told h = plain_told db valid (t.assign target value tail) update rows are clear told h
update_told db valid (t.add_new target label literal tail) update rows are clear told h =
    copy_told db valid (t.add_new target label literal tail) update rows are clear told h
update_told db valid (t.add_link target label right tail) update rows are clear told h =
    plain_told db valid (t.add_link target label right tail) update rows are clear told h
update_told db valid (t.remove target label right tail) update rows are clear told h =
    plain_told db valid (t.remove target label right tail) update rows are clear told h
update_told db valid _ update rows are clear told h = absurd (update refl)

pub update_clear : (db : Database) → IsValid db → (statement : StatementTree) → IsUpdate statement → (rows : List (List Oid)) → AreRowsOf db statement rows
    → IsClear (Cause db statement) found_order
    → IsClear (updating.UpdateCause db.labels db.graph statement (map pair_of rows)) (updating.update_order statement) → IsClear (Cause db statement) fit_order
update_clear db valid (t.assign target value tail) update rows are clear h =
    let statement = t.assign target value tail in
    early_clear db valid statement update rows are clear
    (clear_right (updating.UpdateCause db.labels db.graph statement (map pair_of rows)) locals early h)
update_clear db valid (t.add_new target label literal tail) update rows are clear h =
    let statement = t.add_new target label literal tail in
    let cause = updating.UpdateCause db.labels db.graph statement (map pair_of rows) in
    early_clear db valid statement update rows are clear (clear_left cause early large (clear_right cause locals (early ++ large) h))
update_clear db valid (t.add_link target label right tail) update rows are clear h =
    let statement = t.add_link target label right tail in
    early_clear db valid statement update rows are clear
    (clear_right (updating.UpdateCause db.labels db.graph statement (map pair_of rows)) locals early h)
update_clear db valid (t.remove target label right tail) update rows are clear h =
    let statement = t.remove target label right tail in
    early_clear db valid statement update rows are clear
    (clear_right (updating.UpdateCause db.labels db.graph statement (map pair_of rows)) locals early h)
update_clear db valid _ update rows are clear h = absurd (update refl)
