-- Names: what refuses one that is bound to a path, and what binds it or takes it away.
use Rattle.std.proofs.Common.{◌≡◌, ◌≢◌, inl, inr, arith, ℕ, List, [], ◌∷◌, ◌++◌, length, sum_by, Bool, true, false, true≢false, not, is_some, Option, Some, None, All, refl, sym, ap, subst, ◌∙◌}
use Rattle.std.proofs.lemmas.List.Elements.{All-head, All-tail}
use Rattle.std.proofs.lemmas.List.Sums.{sum_by-cons}
use Rattle.lore_base.specs.Names.{IsNameTable, object_of}
use Rattle.lore_base.specs.Databases.{Database, IsValid}
use Rattle.lore_base.specs.ChangeSets.{IsBound}
use Rattle.lore_base.specs.Verdicts.{IsFirst, IsClear, IsToldBy}
use Rattle.lore_base.proofs.VerdictLaws.{clear_left}
use Rattle.lore_base.proofs.NameLaws.{found_bound, bound_found}
use Rattle.list_laws.proofs.MemberLaws.{All-from_members}
use Rattle.lorel_trees.specs.Trees.{RootedTree, SelectTree, StatementTree, bind, unname}
use Rattle.lorel_ranges.specs.Places.{place_of}
use Rattle.lorel_bind.specs.Answers.{IsAnswer}
use Rattle.lorel_bound.specs.Answers.{row_labels, IsTooMuch}
use Rattle.statements.specs.Types.{Oid, Cell, Changes, Refusal}
use Rattle.statements.specs.Types.refusals
use Rattle.statements.specs.Forms.{path_select}
use Rattle.statements.specs.Effects.{naming, unnaming}
use Rattle.statements.specs.Statements.{Cause, cause_order}
use Rattle.statements.specs.Stops.{told}
use Rattle.statements.specs.inside.Listed.{ListsChanges}
use Rattle.statements.specs.inside.Stages.{ReadCause, bind_order, bound_order, read_order, found_order, change_order}
use Rattle.statements.specs.inside.Stages.{IsOneObject, IsOnly, IsNotOnly, not_one}
use Rattle.statements.specs.declared.stops.Stop.{Stop}
use Rattle.statements.proofs.OrderLaws.{told_left, first_split}
use Rattle.statements.proofs.ObjectRowLaws.{shown_objects}
use Rattle.statements.proofs.ReadLaws.{read_binds, uncounted_clear}
use Rattle.statements.proofs.CauseLaws.{locals, name_locals, name_clear, name_told, unname_clear, unname_told}
use Rattle.statements.proofs.ExecutionLaws.{same_as}

-- ---- bound names
some_none : (oid : Oid) → Some oid ≡ None → ⊥
some_none oid same = cc

-- a name that isn't found isn't bound
pub unbound_by : (names : List (List ℕ × Oid)) (name : List ℕ) (found : Option Oid) (none : Bool) → IsNameTable names → found ≡ object_of names name
    → is_some found ≡ not none → none ≡ true → IsBound names name → ⊥
unbound_by names name None none table is tests missing bound = some_none bound.0 (sym (is ∙ bound_found names name bound.0 table bound.1))
unbound_by names name (Some oid) none table is tests missing bound = true≢false (tests ∙ ap not missing)

pub bound_by : (names : List (List ℕ × Oid)) (name : List ℕ) (found : Option Oid) (none : Bool) → found ≡ object_of names name
    → is_some found ≡ not none → none ≡ false → IsBound names name
bound_by names name None none is tests there = absurd (true≢false (sym (tests ∙ ap not there)))
bound_by names name (Some oid) none is tests there = (oid, found_bound names name oid (sym is))

-- ---- refusals of rows
-- what binding refuses is no number of rows
bound_kept : (Applies : Refusal → Type 0) (refusal : Refusal) → IsFirst Applies bind_order refusal → not_one (Some refusal) ≡ Some refusal
bound_kept Applies refusal (inl h) = subst (λ (r : Refusal). not_one (Some r) ≡ Some r) (sym h.1) refl
bound_kept Applies refusal (inr (a, inl h)) = subst (λ (r : Refusal). not_one (Some r) ≡ Some r) (sym h.1) refl
bound_kept Applies refusal (inr (a, inr (b, inl h))) = subst (λ (r : Refusal). not_one (Some r) ≡ Some r) (sym h.1) refl
bound_kept Applies refusal (inr (a, inr (b, inr (c, inl h)))) = subst (λ (r : Refusal). not_one (Some r) ≡ Some r) (sym h.1) refl
bound_kept Applies refusal (inr (a, inr (b, inr (c, inr (d, none))))) = absurd none

-- rows of one object each have no labels
no_label : (row : List Cell) → IsOneObject row → row_labels row ≡ 0
no_label row one = subst (λ (r : List Cell). row_labels r ≡ 0) (sym one.1) refl

no_labels : (rows : List (List Cell)) → All IsOneObject rows → sum_by row_labels rows ≡ 0
no_labels [] all = refl
no_labels (row ∷ rows) all =
    let first = no_label row (All-head IsOneObject row rows all) in
    let others = no_labels rows (All-tail IsOneObject row rows all) in
    omega (arith, sum_by-cons row_labels row rows, first, others)

-- ---- a name for a path
module _ (db : Database) (valid : IsValid db) (name : List ℕ) (path : RootedTree) where
  abbrev naming_tree : StatementTree
  naming_tree = bind name path

  abbrev query : SelectTree
  query = path_select path

  -- its rows show one object each
  pub single_cells : (rows : List (List Cell)) → IsAnswer db query rows → All IsOneObject rows
  single_cells rows answer = All-from_members IsOneObject rows (λ row there.
      let is = (answer.exact row).0 there in
      let place = place_of [] path in
      (is.2.at place, shown_objects db is.0 is.2.at (place ∷ []) row is.2.shown))

  found_clear : IsClear (ReadCause db query) bind_order → IsClear (Cause db naming_tree) found_order
  found_clear clear = uncounted_clear db naming_tree query refl (λ unbound. unbound) refl (name_locals db valid name path) clear

  -- too many rows are not one: without words they have no labels, and so they are more than an answer may have
  flooded : (rows : List (List Cell)) → IsAnswer db query rows → IsTooMuch rows → length rows ≢ 1
  flooded rows answer (inl many) one = omega (arith, many, one)
  flooded rows answer (inr many) one = let none = no_labels rows (single_cells rows answer) in omega (arith, many, none)

  -- what refuses the select for its binding refuses the statement
  binding_stops : (told : Option Refusal) → IsToldBy (ReadCause db query) bind_order told → IsToldBy (Cause db naming_tree) cause_order told
  binding_stops told h =
      told_left (Cause db naming_tree) bound_order (locals ++ (refusals.TooManyRows ∷ change_order)) told
      (read_binds db naming_tree query refl (λ unbound. unbound) told h)

  -- what refuses the select refuses the statement, but too many rows are not one
  pub path_stops : (told : Option Refusal) → IsToldBy (ReadCause db query) read_order told → IsToldBy (Cause db naming_tree) cause_order (not_one told)
  path_stops None h = tt
  path_stops (Some refusal) h = elim (first_split (ReadCause db query) bind_order (refusals.TooManyRows ∷ []) refusal h) [
    | inl first ↦ subst (IsToldBy (Cause db naming_tree) cause_order) (sym (bound_kept (ReadCause db query) refusal first)) (binding_stops (Some refusal) first)
    | inr (clear, last) ↦ elim last [
      | inl (many, is) ↦ subst (λ (r : Refusal). IsToldBy (Cause db naming_tree) cause_order (not_one (Some r))) (sym is)
          (name_told db valid name path many.0 many.1 (flooded many.0 many.1 many.2) (found_clear clear))
      | inr (few, none) ↦ absurd none
    ]
  ]

  pub path_stopped : (told ended : Option Refusal) → told ≡ not_one ended → IsToldBy (ReadCause db query) read_order ended
      → IsToldBy (Cause db naming_tree) cause_order told
  path_stopped told ended is h = subst (IsToldBy (Cause db naming_tree) cause_order) (sym is) (path_stops ended h)

  module _ (rows : List (List Cell)) (answer : IsAnswer db query rows) (clear : IsClear (ReadCause db query) read_order) where
    bound_clear : IsClear (Cause db naming_tree) found_order
    bound_clear = found_clear (clear_left (ReadCause db query) bind_order (refusals.TooManyRows ∷ []) clear)

    pub several_stop : (stop : Stop) → IsNotOnly rows stop → IsToldBy (Cause db naming_tree) cause_order (told stop)
    several_stop stop h =
        subst (IsToldBy (Cause db naming_tree) cause_order) (sym h.0) (name_told db valid name path rows answer h.1 bound_clear)

    -- the only row, as objects
    pub named_lists : (oid : Oid) → IsOnly rows oid → (changes : Changes) → changes ≡ naming name ((oid, None) ∷ []) → ListsChanges db naming_tree changes
    named_lists oid only changes is = record {
      changing = tt;
      rows = (oid ∷ []) ∷ [];
      are = subst (IsAnswer db query) only answer;
      same = same_as (naming name ((oid, None) ∷ [])) changes is;
      clear = name_clear db valid name path rows answer (ap length only) bound_clear;
    }

-- ---- a name taken away
module _ (db : Database) (valid : IsValid db) (name : List ℕ) where
  abbrev unnaming_tree : StatementTree
  unnaming_tree = unname name

  pub unbound_stop : (IsBound db.graph.names name → ⊥) → IsToldBy (Cause db unnaming_tree) cause_order (Some refusals.UnknownName)
  unbound_stop unbound = unname_told db valid name unbound

  pub unnamed_lists : IsBound db.graph.names name → (changes : Changes) → changes ≡ unnaming name → ListsChanges db unnaming_tree changes
  unnamed_lists bound changes is = record {
    changing = tt;
    rows = [];
    are = refl;
    same = same_as (unnaming name) changes is;
    clear = unname_clear db valid name (λ unbound. unbound bound);
  }
