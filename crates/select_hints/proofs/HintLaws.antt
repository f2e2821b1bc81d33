-- A condition with hints: where its paths start, and when it holds.
use Rattle.std.proofs.Common.{◌≡◌, inl, inr, ℕ, ◌≤◌, List, [], ◌∷◌, ◌++◌, length, map, Option, None, Some, option_map, IfSome, All, sym, subst}
use Rattle.std.proofs.lemmas.List.Elements.{All-nil, All-cons, All-head, All-tail, All-append}
use Rattle.lorel_bound.specs.declared.bound.Bound.{Bound}
use Rattle.lorel_bound.specs.declared.conditions.BoundCond.{BoundCond}
use Rattle.lorel_bound.specs.Bound.{BoundPathTree, range_tree, bound_cond, bound_tree, conds_from}
use Rattle.lorel_bound.specs.Conditions.{CondOf, and, paths_of, paths_of_all, paths_in}
use Rattle.lorel_bound.specs.Runnable.{IsBoundWithin, IsRunnable}
use Rattle.lorel_bound.specs.SlotRows.{HoldsOver}
use Rattle.select_hints.specs.Types.{Oid, Edge, Value, LEAVES}
use Rattle.select_hints.specs.Hints.{AreHints}
use Rattle.select_hints.specs.inside.Counts.{cond_leaves}
use Rattle.select_hints.specs.inside.Moves.{HoldsOn, StartsWithin, AreMembers, IsLonger}
use Rattle.select_hints.proofs.CountLaws.{counted}

-- ---- lists in two parts
front : {X : Type 0} (P : X → Type 0) (xs ys : List X) → All P (xs ++ ys) → All P xs
front P [] ys h = All-nil P
front P (x ∷ xs) ys h = All-cons P x xs (All-head P x (xs ++ ys) h) (front P xs ys (All-tail P x (xs ++ ys) h))

back : {X : Type 0} (P : X → Type 0) (xs ys : List X) → All P (xs ++ ys) → All P ys
back P [] ys h = h
back P (x ∷ xs) ys h = back P xs ys (All-tail P x (xs ++ ys) h)

-- ---- when it holds
module _ (labels : List (List ℕ)) (edges : List Edge) (objects : List (Oid × Value)) (slots : List Oid) where
  abbrev On : CondOf BoundPathTree → Type 0
  On = HoldsOn labels edges objects slots

  all_of : (list : List (CondOf BoundPathTree)) → On (and (conds_from list)) → All On list
  all_of [] h = All-nil On
  all_of (first ∷ others) h = All-cons On first others h.0 (all_of others h.1)

  and_of : (list : List (CondOf BoundPathTree)) → All On list → On (and (conds_from list))
  and_of [] h = tt
  and_of (first ∷ others) h = (All-head On first others h, and_of others (All-tail On first others h))

  members_hold : (condition : CondOf BoundPathTree) (members : List (CondOf BoundPathTree)) → AreMembers condition members
      → On condition → All On members
  members_hold condition members own h = elim own [
    | inl is ↦ all_of members (subst On is h)
    | inr alone ↦ subst (All On) (sym alone) (All-cons On condition [] h (All-nil On))
  ]

-- ---- where its paths start
module _ (count : ℕ) where
  abbrev Within : BoundPathTree → Type 0
  Within path = IsBoundWithin count path.start

  each_within : (list : List (CondOf BoundPathTree)) → StartsWithin count (and (conds_from list)) → All (StartsWithin count) list
  each_within [] h = All-nil (StartsWithin count)
  each_within (first ∷ others) h =
      All-cons (StartsWithin count) first others (front Within (paths_of first) (paths_of_all (conds_from others)) h)
      (each_within others (back Within (paths_of first) (paths_of_all (conds_from others)) h))

  and_within : (list : List (CondOf BoundPathTree)) → All (StartsWithin count) list → StartsWithin count (and (conds_from list))
  and_within [] h = All-nil Within
  and_within (first ∷ others) h =
      All-append Within (paths_of first) (paths_of_all (conds_from others)) (All-head (StartsWithin count) first others h)
      (and_within others (All-tail (StartsWithin count) first others h))

  members_within : (condition : CondOf BoundPathTree) (members : List (CondOf BoundPathTree)) → AreMembers condition members
      → StartsWithin count condition → All (StartsWithin count) members
  members_within condition members own h = elim own [
    | inl is ↦ each_within members (subst (StartsWithin count) is h)
    | inr alone ↦ subst (All (StartsWithin count)) (sym alone) (All-cons (StartsWithin count) condition [] h (All-nil (StartsWithin count)))
  ]

-- ---- the condition with what was put behind its members
hints_of : (bound : Bound) (cond more : BoundCond) → bound.cond ≡ Some cond → IsRunnable (bound_tree bound)
    → IsLonger (map range_tree bound.ranges) (bound_cond cond) (bound_cond more) → cond_leaves (bound_cond more) ≤ LEAVES
    → AreHints (bound_tree bound) (bound_cond more)
hints_of bound cond more is runnable longer few = record {
  few_leaves = subst (λ (n : ℕ). n ≤ LEAVES) (sym (counted (bound_cond more))) few;
  within =
      let starts = subst (λ (o : Option BoundCond). All (Within (length (map range_tree bound.ranges))) (paths_in (option_map bound_cond o))) is runnable.condition_within in
      subst (StartsWithin (length (map range_tree bound.ranges))) (sym longer.is)
      (and_within (length (map range_tree bound.ranges)) longer.list
      (longer.extends.within (members_within (length (map range_tree bound.ranges)) (bound_cond cond) longer.members longer.own starts)));
  told = λ labels edges objects slots filled h.
      let holds = subst (λ (o : Option BoundCond). HoldsOver labels edges objects slots (option_map bound_cond o)) is h in
      subst (HoldsOn labels edges objects slots) (sym longer.is) (and_of labels edges objects slots longer.list
      (longer.extends.implied labels edges objects slots filled
      (members_hold labels edges objects slots (bound_cond cond) longer.members longer.own holds)));
}

-- where there is one, and it is kept
pub hints_found : (bound : Bound) (cond : BoundCond) (found kept : Option BoundCond) → bound.cond ≡ Some cond → IsRunnable (bound_tree bound)
    → IfSome found (λ more. IsLonger (map range_tree bound.ranges) (bound_cond cond) (bound_cond more))
    → IfSome kept (λ more. found ≡ Some more) → IfSome kept (λ more. cond_leaves (bound_cond more) ≤ LEAVES)
    → IfSome kept (λ more. AreHints (bound_tree bound) (bound_cond more))
hints_found bound cond found None is runnable longer own few = tt
hints_found bound cond found (Some more) is runnable longer own few =
    hints_of bound cond more is runnable
    (subst (λ (o : Option BoundCond). IfSome o (λ one. IsLonger (map range_tree bound.ranges) (bound_cond cond) (bound_cond one))) own longer) few
