-- The step of each set by each label, as a list.
use Rattle.std.proofs.Common.{◌≡◌, ℕ, ◌<◌, inl, inr, List, map, arith}
use Rattle.std.specs.List.{Contains}
use Rattle.std.proofs.lemmas.Bool.{cases_lt}
use Rattle.lore_base.specs.Walks.{edge_of}
use Rattle.lore_base.specs.TargetSets.{LeavesTo, IsStep}
use Rattle.lore_base.proofs.ToldLaws.{IsTold, told_same, told_some, told_member, told_edge}
use Rattle.lore_base.proofs.ToldLaws.{passing, members_passing, AllPairs-passing}
use Rattle.list_laws.proofs.AscentLaws.{IsEither, IsOrder, IsSetOf, some_ordered}
use Rattle.list_laws.proofs.MemberLaws.{Contains-map}
use Rattle.set_explorer.specs.Types.{Oid, Label, Edge}

module _ {X : Type 0} (number : X → ℕ) (exact : (a b : X) → number a ≡ number b → a ≡ b) where
  either_number : (a b : X) → IsEither (λ x y. number x < number y) a b
  either_number a b = elim (cases_lt (number a) (number b)) [
    | inl below ↦ inl below
    | inr not_below ↦ elim (cases_lt (number b) (number a)) [
      | inl above ↦ inr (inr above)
      | inr not_above ↦ inr (inl (exact a b (omega (arith, not_below, not_above))))
    ]
  ]

  -- the order of numbers, where they tell the items apart
  pub numbers_ordered : IsOrder (λ (a b : X). number a < number b)
  numbers_ordered = record {
    apart = λ a below. omega (arith, below);
    trans = λ a b c first second. omega (arith, first, second);
    either = either_number;
  }

-- the children of edges, in the order of their numbers
pub some_children : (edges : List Edge)
    → (oids : List Oid) × IsSetOf (λ a b. a.0 < b.0) (map (λ edge. edge.child) edges) oids
some_children edges =
    some_ordered (λ (a b : Oid). a.0 < b.0)
    (numbers_ordered (λ (oid : Oid). oid.0) (λ a b same. λ i. record { 0 = same i }))
    (map (λ edge. edge.child) edges)

abbrev pub children_of : List Edge → List Oid
children_of edges = (some_children edges).0

pub told_leaves : (edges : List Edge) (set : List Oid) (label : Label) (oid : Oid)
    → IsTold (LeavesTo edges set label oid)
told_leaves edges set label oid =
    told_same
    (λ some. record { from = some.0; member = some.1; edge = some.2 })
    (λ (leaves : LeavesTo edges set label oid). (leaves.from, leaves.member, leaves.edge))
    (told_some (λ (from : Oid). Contains edges (edge_of from label oid))
    (λ from. told_member told_edge edges (edge_of from label oid)) set)

-- the step of a set by a label
abbrev pub step_of : List Edge → List Oid → Label → List Oid
step_of edges set label = passing (LeavesTo edges set label) (told_leaves edges set label) (children_of edges)

pub step_is : (edges : List Edge) (set : List Oid) (label : Label)
    → IsStep edges set label (step_of edges set label)
step_is edges set label =
    let children = (some_children edges).1 in
    let told = told_leaves edges set label in
    record {
      ascending = AllPairs-passing (LeavesTo edges set label) told (λ a b. a.0 < b.0) (children_of edges)
          children.ascend;
      exact = λ oid.
          let both = members_passing (LeavesTo edges set label) told (children_of edges) oid in (
            λ at. (both.0 at).1,
            λ leaves. both.1 (
              children.kept oid
                  (Contains-map (λ (edge : Edge). edge.child) edges (edge_of leaves.from label oid)
                  leaves.edge),
              leaves,
            ),
          );
    }
