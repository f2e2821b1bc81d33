-- Conditions over label texts hold as they do where the texts stand beside them.
use Rattle.std.proofs.Common.{◌≡◌, ◌↔◌, ℕ, inl, inr, List, [], ◌∷◌, ◌++◌, map, Option, refl, ap}
use Rattle.lore_base.specs.Comparisons.{Compares}
use Rattle.lorel_bound.specs.Bound.{BoundPathTree, conds_from}
use Rattle.lorel_bound.specs.Conditions.{OperandOf, constant, at, CondOf, or, and, not, exists, for_all, compare, same, CondsOf, no_cond, cond}
use Rattle.lorel_bound.specs.Holding.{Gives, Holds, SomeHolds, AllHold}
use Rattle.lorel_bound.specs.SlotRows.{MeetsBy}
use Rattle.lorel_eval.specs.Types.{Oid, Value}
use Rattle.lorel_eval.specs.inside.Labelled.{labelled_operand, labelled, labelled_all, in_order}
use Rattle.lorel_eval.specs.inside.Subjects.{SlotsOver, HasValueIn, GivesIn, HoldsIn, SomeHoldsIn, AllHoldIn}

-- the conditions of a list, over label texts
pub listed_labelled : (labels : List (List ℕ)) (conds : List (CondOf BoundPathTree)) → in_order (map (labelled labels) conds) ≡ labelled_all labels (conds_from conds)
listed_labelled labels [] = refl
listed_labelled labels (first ∷ others) = ap (cond (labelled labels first)) (listed_labelled labels others)

module _ (labels : List (List ℕ)) (over : SlotsOver) where
  abbrev Meets : List Oid → BoundPathTree → Oid → Type 0
  Meets = MeetsBy labels over.edges over.slots

  gives_labelled : (objects : List Oid) (operand : OperandOf BoundPathTree) (value : Value)
      → GivesIn over objects (labelled_operand labels operand) value ↔ Gives Meets (HasValueIn over) Compares objects operand value
  gives_labelled objects (constant own) value = (λ h. h, λ h. h)
  gives_labelled objects (at path) value = (λ h. h, λ h. h)

  mutual
    pub holds_labelled : (condition : CondOf BoundPathTree) (objects : List Oid)
        → HoldsIn over objects (labelled labels condition) ↔ Holds Meets (HasValueIn over) Compares objects condition
    holds_labelled (or members) objects = some_labelled members objects
    holds_labelled (and members) objects = all_labelled members objects
    holds_labelled (not body) objects =
        let inside = holds_labelled body objects in
        (λ h g. h (inside.1 g), λ h g. h (inside.0 g))
    holds_labelled (exists path body) objects = (
      λ h. (h.0, h.1, (holds_labelled body (objects ++ h.0 ∷ [])).0 h.2),
      λ h. (h.0, h.1, (holds_labelled body (objects ++ h.0 ∷ [])).1 h.2),
    )
    holds_labelled (for_all path body) objects = (
      λ h oid reached. (holds_labelled body (objects ++ oid ∷ [])).0 (h oid reached),
      λ h oid reached. (holds_labelled body (objects ++ oid ∷ [])).1 (h oid reached),
    )
    holds_labelled (compare left op right) objects = (
      λ h. (h.0, h.1, (gives_labelled objects left h.0).0 h.2, (gives_labelled objects right h.1).0 h.3, h.4),
      λ h. (h.0, h.1, (gives_labelled objects left h.0).1 h.2, (gives_labelled objects right h.1).1 h.3, h.4),
    )
    holds_labelled (same left right) objects = (λ h. h, λ h. h)

    some_labelled : (members : CondsOf BoundPathTree) (objects : List Oid)
        → SomeHoldsIn over objects (labelled_all labels members) ↔ SomeHolds Meets (HasValueIn over) Compares objects members
    some_labelled no_cond objects = (λ h. h, λ h. h)
    some_labelled (cond first others) objects =
        let here = holds_labelled first objects in
        let there = some_labelled others objects in (
          λ h. elim h [ inl own ↦ inl (here.0 own) | inr later ↦ inr (there.0 later) ],
          λ h. elim h [ inl own ↦ inl (here.1 own) | inr later ↦ inr (there.1 later) ],
        )

    all_labelled : (members : CondsOf BoundPathTree) (objects : List Oid)
        → AllHoldIn over objects (labelled_all labels members) ↔ AllHold Meets (HasValueIn over) Compares objects members
    all_labelled no_cond objects = (λ h. h, λ h. h)
    all_labelled (cond first others) objects =
        let here = holds_labelled first objects in
        let there = all_labelled others objects in (
          λ h. (here.0 h.0, there.0 h.1),
          λ h. (here.1 h.0, there.1 h.1),
        )
