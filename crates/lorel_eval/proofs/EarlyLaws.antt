-- A condition that reads known slots alone holds alike wherever these have the same objects.
use Rattle.std.proofs.Common.{◌≡◌, ◌↔◌, inl, inr, Bool, true, IsTrue, IfOk, Result, Ok, Err, List, [], ◌∷◌, ◌++◌, Some, get_or, map, sym, subst, ◌∙◌}
use Rattle.std.specs.List.{All, Contains, slice_get}
use Rattle.std.proofs.lemmas.List.Elements.{All-nil, All-cons, All-head, All-tail}
use Rattle.lore_base.specs.Comparisons.{Compares}
use Rattle.lore_base.proofs.MemberLaws.{Contains-none, Contains-cases}
use Rattle.index_traits.specs.PartRows.{AgreeOn, NonePasses}
use Rattle.lorel_bound.specs.Conditions.{OperandOf, constant, at, CondOf, or, and, not, exists, for_all, compare, same, CondsOf, no_cond, cond, operand_paths, paths_of, paths_of_all}
use Rattle.lorel_bound.specs.Holding.{Gives, Holds, SomeHolds, AllHold}
use Rattle.lorel_bound.specs.SlotRows.{BoundStartsAt}
use Rattle.lorel_eval.specs.Types.{Oid, Value, Op, BoundStart}
use Rattle.lorel_eval.specs.Types.bound_starts
use Rattle.lorel_eval.specs.declared.ready_conds.ReadyCond.{ReadyCond}
use Rattle.lorel_eval.specs.inside.Labelled.{LabelledPath, in_order}
use Rattle.lorel_eval.specs.inside.Ready.{ready_tree}
use Rattle.lorel_eval.specs.inside.Subjects.{SlotsOver, ReachedIn, HoldsIn, AllHoldIn}
use Rattle.lorel_eval.specs.inside.Early.{IsKnown, StartsKnown, ReadsKnown, FailsByKnown, SomeFailsByKnown, with_slots}

-- what holds of each of a list holds of each of its parts
parts_all : {X : Type 0} (P : X → Type 0) (xs ys : List X) → All P (xs ++ ys) → All P xs × All P ys
parts_all P [] ys h = (All-nil P, h)
parts_all P (x ∷ xs) ys h =
    let later = parts_all P xs ys (All-tail P x (xs ++ ys) h) in
    (All-cons P x xs (All-head P x (xs ++ ys) h) later.0, later.1)

module _ (R S : List Oid → LabelledPath → Oid → Type 0) (Has : Oid → Value → Type 0) (Compare : Value → Op → Value → Type 0) where
  -- a path reaches the same by both
  abbrev Alike : LabelledPath → Type 0
  Alike path = (objects : List Oid) (oid : Oid) → R objects path oid ↔ S objects path oid

  gives_alike : (objects : List Oid) (operand : OperandOf LabelledPath) → All Alike (operand_paths operand) → (value : Value)
      → Gives R Has Compare objects operand value ↔ Gives S Has Compare objects operand value
  gives_alike objects (constant own) alike value = (λ h. h, λ h. h)
  gives_alike objects (at path) alike value =
      let own = All-head Alike path [] alike in (
        λ h. (h.0, (own objects h.0).0 h.1, h.2),
        λ h. (h.0, (own objects h.0).1 h.1, h.2),
      )

  mutual
    pub holds_alike : (condition : CondOf LabelledPath) → All Alike (paths_of condition) → (objects : List Oid)
        → Holds R Has Compare objects condition ↔ Holds S Has Compare objects condition
    holds_alike (or members) alike objects = some_alike members alike objects
    holds_alike (and members) alike objects = all_alike members alike objects
    holds_alike (not body) alike objects =
        let inside = holds_alike body alike objects in
        (λ h g. h (inside.1 g), λ h g. h (inside.0 g))
    holds_alike (exists path body) alike objects =
        let own = All-head Alike path (paths_of body) alike in
        let rest = All-tail Alike path (paths_of body) alike in (
          λ h. (h.0, (own objects h.0).0 h.1, (holds_alike body rest (objects ++ h.0 ∷ [])).0 h.2),
          λ h. (h.0, (own objects h.0).1 h.1, (holds_alike body rest (objects ++ h.0 ∷ [])).1 h.2),
        )
    holds_alike (for_all path body) alike objects =
        let own = All-head Alike path (paths_of body) alike in
        let rest = All-tail Alike path (paths_of body) alike in (
          λ h oid reached. (holds_alike body rest (objects ++ oid ∷ [])).0 (h oid ((own objects oid).1 reached)),
          λ h oid reached. (holds_alike body rest (objects ++ oid ∷ [])).1 (h oid ((own objects oid).0 reached)),
        )
    holds_alike (compare left op right) alike objects =
        let first = gives_alike objects left (parts_all Alike (operand_paths left) (operand_paths right) alike).0 in
        let second = gives_alike objects right (parts_all Alike (operand_paths left) (operand_paths right) alike).1 in (
          λ h. (h.0, h.1, (first h.0).0 h.2, (second h.1).0 h.3, h.4),
          λ h. (h.0, h.1, (first h.0).1 h.2, (second h.1).1 h.3, h.4),
        )
    holds_alike (same left right) alike objects =
        let first = All-head Alike left (right ∷ []) alike in
        let second = All-head Alike right [] (All-tail Alike left (right ∷ []) alike) in (
          λ h. (h.0, (first objects h.0).0 h.1, (second objects h.0).0 h.2),
          λ h. (h.0, (first objects h.0).1 h.1, (second objects h.0).1 h.2),
        )

    some_alike : (members : CondsOf LabelledPath) → All Alike (paths_of_all members) → (objects : List Oid)
        → SomeHolds R Has Compare objects members ↔ SomeHolds S Has Compare objects members
    some_alike no_cond alike objects = (λ h. h, λ h. h)
    some_alike (cond first others) alike objects =
        let here = holds_alike first (parts_all Alike (paths_of first) (paths_of_all others) alike).0 objects in
        let there = some_alike others (parts_all Alike (paths_of first) (paths_of_all others) alike).1 objects in (
          λ h. elim h [ inl own ↦ inl (here.0 own) | inr later ↦ inr (there.0 later) ],
          λ h. elim h [ inl own ↦ inl (here.1 own) | inr later ↦ inr (there.1 later) ],
        )

    all_alike : (members : CondsOf LabelledPath) → All Alike (paths_of_all members) → (objects : List Oid)
        → AllHold R Has Compare objects members ↔ AllHold S Has Compare objects members
    all_alike no_cond alike objects = (λ h. h, λ h. h)
    all_alike (cond first others) alike objects =
        let here = holds_alike first (parts_all Alike (paths_of first) (paths_of_all others) alike).0 objects in
        let there = all_alike others (parts_all Alike (paths_of first) (paths_of_all others) alike).1 objects in (
          λ h. (here.0 h.0, there.0 h.1),
          λ h. (here.1 h.0, there.1 h.1),
        )

-- a known start has the same object in both
starts_alike : (known : List Bool) (a b objects : List Oid) (start : BoundStart) (oid : Oid) → AgreeOn known a b → IsKnown known start
    → BoundStartsAt a objects start oid ↔ BoundStartsAt b objects start oid
starts_alike known a b objects (bound_starts.Named own) oid agree is = (λ h. h, λ h. h)
starts_alike known a b objects (bound_starts.Slot slot) oid agree is = (λ h. sym (agree slot is) ∙ h, λ h. agree slot is ∙ h)
starts_alike known a b objects (bound_starts.Quantified depth) oid agree is = (λ h. h, λ h. h)

reached_alike : (over : SlotsOver) (known : List Bool) (slots : List Oid) (path : LabelledPath) → AgreeOn known over.slots slots → StartsKnown known path
    → (objects : List Oid) (oid : Oid) → ReachedIn over objects path oid ↔ ReachedIn (with_slots over slots) objects path oid
reached_alike over known slots path agree is objects oid = (
  λ h. (h.0, (starts_alike known over.slots slots objects path.start h.0 agree is).0 h.1, h.2),
  λ h. (h.0, (starts_alike known over.slots slots objects path.start h.0 agree is).1 h.1, h.2),
)

-- where it fails of a row, it fails by what is known
pub fails_by_known : (over : SlotsOver) (known : List Bool) (condition : CondOf LabelledPath) → ReadsKnown known condition
    → (HoldsIn over [] condition → ⊥) → FailsByKnown over known condition
fails_by_known over known condition reads fails slots agree holds =
    let alike : All (Alike (ReachedIn over) (ReachedIn (with_slots over slots)) (λ oid value. Contains over.objects (oid, value)) Compares) (paths_of condition) =
    (λ i d within. reached_alike over known slots (get_or (paths_of condition) i d) agree (reads i d within)) in
    fails ((holds_alike (ReachedIn over) (ReachedIn (with_slots over slots)) (λ oid value. Contains over.objects (oid, value)) Compares condition alike []).1 holds)

-- where a member fails, all don't hold
all_fail : (over : SlotsOver) (known : List Bool) (members : List ReadyCond) → SomeFailsByKnown over known members
    → (slots : List Oid) → AgreeOn known over.slots slots → AllHoldIn (with_slots over slots) [] (in_order (map ready_tree members)) → ⊥
all_fail over known [] some slots agree all = Contains-none some.0 some.1
all_fail over known (first ∷ others) some slots agree all = elim (Contains-cases first others some.0 some.1) [
  | inl here ↦ some.2 slots agree (subst (λ (m : ReadyCond). HoldsIn (with_slots over slots) [] (ready_tree m)) here all.0)
  | inr behind ↦ all_fail over known others (some.0, behind, some.2) slots agree all.1
]

and_fails : (over : SlotsOver) (known : List Bool) (members : List ReadyCond) (trees : List (CondOf LabelledPath)) (condition : CondOf LabelledPath)
    → map ready_tree members ≡ trees → condition ≡ and (in_order trees) → SomeFailsByKnown over known members → FailsByKnown over known condition
and_fails over known members trees condition are is some slots agree holds =
    all_fail over known members some slots agree
    (subst (λ (l : List (CondOf LabelledPath)). AllHoldIn (with_slots over slots) [] (in_order l)) (sym are)
    (subst (HoldsIn (with_slots over slots) []) is holds))

-- and so where some of the members is told to fail
pub and_told : {E : Type 0} (over : SlotsOver) (known : List Bool) (members : List ReadyCond) (trees : List (CondOf LabelledPath))
    (condition : CondOf LabelledPath) (result : Result Bool E) → map ready_tree members ≡ trees → condition ≡ and (in_order trees)
    → IfOk result (λ answer. IsTrue answer → SomeFailsByKnown over known members) → IfOk result (λ answer. IsTrue answer → FailsByKnown over known condition)
and_told over known members trees condition (Ok answer) are is tells = λ yes. and_fails over known members trees condition are is (tells yes)
and_told over known members trees condition (Err error) are is tells = tt
