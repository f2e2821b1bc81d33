-- What a statement changes and why it is refused, told by what its form changes and why that is refused.
use Rattle.std.proofs.Common.{◌≡◌, ◌≢◌, ℕ, List, [], ◌∷◌, Option, Some, None, Result, Ok, Err, OnOk, IfOk, IfErr, refl, sym, ap, subst, inl, inr}
use Rattle.std.proofs.lemmas.Result.{IfOk-weaker, IfErr-weaker}
use Rattle.lore_base.specs.Databases.{OemGraph}
use Rattle.lore_base.specs.ChangeSets.{AreSame}
use Rattle.lore_base.specs.ChangeCauses.{ChangeCause}
use Rattle.lore_base.specs.Verdicts.{IsFirst, IsClear, IsToldBy}
use Rattle.lorel_trees.specs.Trees.{RootedTree, TailTree, LiteralTree, StatementTree, assign, add_new, add_link, remove}
use Rattle.updates.specs.Types.{Changes, Refusal}
use Rattle.updates.specs.Effects.{Pair, no_changes, changes_over, changes_by}
use Rattle.updates.specs.Causes.{IsUpdate, UpdateCause, update_order}
use Rattle.updates.specs.declared.faults.UpdateFault.{UpdateFault}
use Rattle.updates.specs.Faults.{refusal_of}
use Rattle.updates.specs.inside.Forms.{form_order, copies_by, CopyCause, copy_order}

-- a form that copies no literal
abbrev pub IsPlain : StatementTree → Type 0
IsPlain (assign target value tail) = Unit {0}
IsPlain (add_link target label right tail) = Unit {0}
IsPlain (remove target label right tail) = Unit {0}
IsPlain statement = ⊥

module _ (table : List (List ℕ)) (graph : OemGraph) where
  pub no_rows : (statement : StatementTree) (rows : List Pair) → rows ≡ [] → no_changes ≡ changes_by table graph statement rows
  no_rows statement rows none = sym (ap (changes_by table graph statement) none)

  pub some_rows : (statement : StatementTree) (rows : List Pair) → (rows ≡ [] → ⊥)
      → changes_over table graph statement rows ≡ changes_by table graph statement rows
  some_rows statement [] some = absurd (some refl)
  some_rows statement (row ∷ rows) some = refl

  module _ (rows : List Pair) (changes : Changes) where
    first_of : (statement : StatementTree) → changes ≡ changes_by table graph statement rows → (refusal : Refusal)
        → IsFirst (ChangeCause table graph changes) form_order refusal
        → IsFirst (ChangeCause table graph (changes_by table graph statement rows)) form_order refusal
    first_of statement same refusal h = subst (λ (c : Changes). IsFirst (ChangeCause table graph c) form_order refusal) same h

    clear_of : (statement : StatementTree) → changes ≡ changes_by table graph statement rows → IsClear (ChangeCause table graph changes) form_order
        → IsClear (ChangeCause table graph (changes_by table graph statement rows)) form_order
    clear_of statement same h = subst (λ (c : Changes). IsClear (ChangeCause table graph c) form_order) same h

    pub plain_told : (statement : StatementTree) → IsPlain statement → changes ≡ changes_by table graph statement rows → (told : Option Refusal)
        → IsToldBy (ChangeCause table graph changes) form_order told → IsToldBy (UpdateCause table graph statement rows) (update_order statement) told
    plain_told statement plain same None h = tt
    plain_told (assign target value tail) plain same (Some refusal) h =
        inr ((λ none. none), inr ((λ none. none), first_of (assign target value tail) same refusal h))
    plain_told (add_link target label right tail) plain same (Some refusal) h =
        inr ((λ none. none), inr ((λ none. none), first_of (add_link target label right tail) same refusal h))
    plain_told (remove target label right tail) plain same (Some refusal) h =
        inr ((λ none. none), inr ((λ none. none), first_of (remove target label right tail) same refusal h))
    plain_told statement plain same (Some refusal) h = absurd plain

    pub plain_clear : (statement : StatementTree) → IsPlain statement → changes ≡ changes_by table graph statement rows
        → IsClear (ChangeCause table graph changes) form_order → IsClear (UpdateCause table graph statement rows) (update_order statement)
    plain_clear (assign target value tail) plain same h =
        ((λ none. none), ((λ none. none), clear_of (assign target value tail) same h))
    plain_clear (add_link target label right tail) plain same h =
        ((λ none. none), ((λ none. none), clear_of (add_link target label right tail) same h))
    plain_clear (remove target label right tail) plain same h =
        ((λ none. none), ((λ none. none), clear_of (remove target label right tail) same h))
    plain_clear statement plain same h = absurd plain

  -- copies, whatever the target
  module _ (target : RootedTree) (label : List ℕ) (literal : LiteralTree) (tail : TailTree) where
    pub literal_same : (rows : List Pair) (changes : Changes) → AreSame (copies_by table graph label literal rows) changes
        → AreSame (changes_by table graph (add_new target label literal tail) rows) changes
    literal_same [] changes h = h
    literal_same (row ∷ rows) changes h = h

    pub literal_told : (rows : List Pair) (told : Option Refusal) → IsToldBy (CopyCause table graph label literal rows) copy_order told
        → IsToldBy (UpdateCause table graph (add_new target label literal tail) rows) (update_order (add_new target label literal tail)) told
    literal_told rows None h = tt
    literal_told [] (Some refusal) h = h
    literal_told (row ∷ rows) (Some refusal) h = h

    pub literal_clear : (rows : List Pair) → IsClear (CopyCause table graph label literal rows) copy_order
        → IsClear (UpdateCause table graph (add_new target label literal tail) rows) (update_order (add_new target label literal tail))
    literal_clear [] h = h
    literal_clear (row ∷ rows) h = h

-- ---- from what a form answers to what the statement answers
pub ok_then : {T E : Type 0} (result : Result T E) (P Q : Type 0) → (P → Q) → OnOk result P → OnOk result Q
ok_then {T} {E} (Ok value) P Q then h = then h
ok_then {T} {E} (Err fault) P Q then h = h

-- what is ensured of the answer to a statement
pub record IsAnswer (table : List (List ℕ)) (graph : OemGraph) (statement : StatementTree) (rows : List Pair) (result : Result Changes UpdateFault) : Type 0 where
  pub same : IfOk result (AreSame (changes_by table graph statement rows))
  pub ok : OnOk result (IsClear (UpdateCause table graph statement rows) (update_order statement))
  pub err : IfErr result (λ fault. IsToldBy (UpdateCause table graph statement rows) (update_order statement) (refusal_of fault))

pub plain_answer : (table : List (List ℕ)) (graph : OemGraph) (statement : StatementTree) (rows : List Pair) (result : Result Changes UpdateFault) (changes : Changes)
    → IsPlain statement → changes ≡ changes_by table graph statement rows → IfOk result (AreSame changes)
    → OnOk result (IsClear (ChangeCause table graph changes) form_order)
    → IfErr result (λ fault. IsToldBy (ChangeCause table graph changes) form_order (refusal_of fault))
    → IsAnswer table graph statement rows result
plain_answer table graph statement rows result changes plain is same ok err = record {
  same = IfOk-weaker result (AreSame changes) (AreSame (changes_by table graph statement rows))
      (λ found h. subst (λ (c : Changes). AreSame c found) is h) same;
  ok = ok_then result (IsClear (ChangeCause table graph changes) form_order) (IsClear (UpdateCause table graph statement rows) (update_order statement))
      (plain_clear table graph rows changes statement plain is) ok;
  err = IfErr-weaker result (λ fault. IsToldBy (ChangeCause table graph changes) form_order (refusal_of fault))
      (λ fault. IsToldBy (UpdateCause table graph statement rows) (update_order statement) (refusal_of fault))
      (λ fault h. plain_told table graph rows changes statement plain is (refusal_of fault) h) err;
}

pub literal_answer : (table : List (List ℕ)) (graph : OemGraph) (target : RootedTree) (label : List ℕ) (literal : LiteralTree) (tail : TailTree)
    (rows : List Pair) (result : Result Changes UpdateFault) → IfOk result (AreSame (copies_by table graph label literal rows))
    → OnOk result (IsClear (CopyCause table graph label literal rows) copy_order)
    → IfErr result (λ fault. IsToldBy (CopyCause table graph label literal rows) copy_order (refusal_of fault))
    → IsAnswer table graph (add_new target label literal tail) rows result
literal_answer table graph target label literal tail rows result same ok err = record {
  same = IfOk-weaker result (AreSame (copies_by table graph label literal rows)) (AreSame (changes_by table graph (add_new target label literal tail) rows))
      (literal_same table graph target label literal tail rows) same;
  ok = ok_then result (IsClear (CopyCause table graph label literal rows) copy_order)
      (IsClear (UpdateCause table graph (add_new target label literal tail) rows) (update_order (add_new target label literal tail)))
      (literal_clear table graph target label literal tail rows) ok;
  err = IfErr-weaker result (λ fault. IsToldBy (CopyCause table graph label literal rows) copy_order (refusal_of fault))
      (λ fault. IsToldBy (UpdateCause table graph (add_new target label literal tail) rows) (update_order (add_new target label literal tail)) (refusal_of fault))
      (λ fault h. literal_told table graph target label literal tail rows (refusal_of fault) h) err;
}

-- a form that is no other is plain
pub plain_form : (statement : StatementTree) → IsUpdate statement
    → ((target : RootedTree) (label : List ℕ) (literal : LiteralTree) (tail : TailTree) → statement ≡ add_new target label literal tail → ⊥)
    → IsPlain statement
plain_form (assign target value tail) update none = tt
plain_form (add_new target label literal tail) update none = none target label literal tail refl
plain_form (add_link target label right tail) update none = tt
plain_form (remove target label right tail) update none = tt
plain_form statement update none = update refl
