-- Objects, edges and pairs that compare as equal are one, and the pairs of edges.
use Rattle.std.proofs.Common.{◌≡◌, ◌↔◌, ◌&&◌, ◌==◌, true, List, [], map, Contains, refl, ap, subst, inl, inr, arith}
use Rattle.std.proofs.lemmas.Bool.Decides.{nat_tests, Decides-eqb}
use Rattle.lore_base.specs.Walks.{edge_of}
use Rattle.lore_base.proofs.MemberLaws.{Contains-same}
use Rattle.lore_base.proofs.ToldLaws.{IsTold, told_by, told_same, told_both, told_oid}
use Rattle.list_laws.proofs.MemberLaws.{Contains-map, Contains-from_map}
use Rattle.value_changes.specs.Types.{Oid, Edge, Value}
use Rattle.value_changes.specs.declared.pairs.Pair.{Pair}
use Rattle.value_changes.specs.inside.Sets.{AreAdded}
use Rattle.value_changes.specs.inside.Pairs.{pair_of, AreKept, IsPairOf, IsAtomic, IsAtomicPairOf, IsThere}
use Rattle.value_changes.proofs.AddedLaws.{added-alone}

pub same_pair : (a b : Pair) → ((a.label.0 == b.label.0) && (a.object.0 == b.object.0)) ≡ true → a ≡ b
same_pair a b h =
    let label : a.label.0 ≡ b.label.0 = grind (arith, nat_tests) in
    let object : a.object.0 ≡ b.object.0 = grind (arith, nat_tests) in
    λ i. record { label = record { 0 = label i }; object = record { 0 = object i } }

pub same_edge : (a b : Edge)
    → ((a.parent.0 == b.parent.0) && ((a.label.0 == b.label.0) && (a.child.0 == b.child.0))) ≡ true → a ≡ b
same_edge a b h =
    let parent : a.parent.0 ≡ b.parent.0 = grind (arith, nat_tests) in
    let label : a.label.0 ≡ b.label.0 = grind (arith, nat_tests) in
    let child : a.child.0 ≡ b.child.0 = grind (arith, nat_tests) in
    λ i. record { parent = record { 0 = parent i }; label = record { 0 = label i }; child = record { 0 = child i } }

pub told_pair : (a b : Pair) → IsTold (a ≡ b)
told_pair a b =
    told_same
    (λ same. λ i. record { label = record { 0 = same.0 i }; object = same.1 i })
    (λ same. (ap (λ (pair : Pair). pair.label.0) same, ap (λ (pair : Pair). pair.object) same))
    (told_both (told_by (a.label.0 == b.label.0) (Decides-eqb a.label.0 b.label.0)) (told_oid a.object b.object))

-- the pair of an edge is that of an edge from the same parent, by its label to its object
pub entered : (Passes : Edge → Type 0) (pair : Pair)
    → IsPairOf Passes pair ↔ ((parent : Oid) × Passes (edge_of parent pair.label pair.object))
entered Passes pair = (
  λ h. (h.0.parent, subst (λ (p : Pair). Passes (edge_of h.0.parent p.label p.object)) h.2 h.1),
  λ h. (edge_of h.0 pair.label pair.object, h.1, refl),
)

pub paired : (edges : List Edge) (pair : Pair) → Contains (map pair_of edges) pair ↔ IsPairOf (Contains edges) pair
paired edges pair = (
  λ at. Contains-from_map pair_of edges pair at,
  λ h. Contains-same (map pair_of edges) (pair_of h.0) pair h.2 (Contains-map pair_of edges h.0 h.1),
)

module _ (objects : List (Oid × Value)) where
  -- the pairs of edges to atomic values
  pub atomic-paired : (edges : List Edge) (pairs : List Pair) → AreAdded pair_of (IsAtomic objects) edges [] pairs
      → (pair : Pair) → Contains pairs pair ↔ IsAtomicPairOf objects (Contains edges) pair
  atomic-paired edges pairs adds pair =
      let alone = added-alone pair_of (IsAtomic objects) edges pairs adds pair in (
        λ at. ((paired edges pair).0 (alone.0 at).0, (alone.0 at).1),
        λ h. alone.1 ((paired edges pair).1 h.0, h.1),
      )

  -- those of edges that are kept, and of edges that are fresh
  pub atomic-paired_then : (entering lost fresh kept : List Edge) (first pairs : List Pair) → AreKept entering lost kept
      → AreAdded pair_of (IsAtomic objects) kept [] first → AreAdded pair_of (IsAtomic objects) fresh first pairs
      → (pair : Pair) → Contains pairs pair ↔ IsAtomicPairOf objects (IsThere entering lost fresh) pair
  atomic-paired_then entering lost fresh kept first pairs keeps adds adds_fresh pair = (
    λ at. elim ((adds_fresh.exact pair).0 at) [
      | inl early ↦
          let h = (atomic-paired kept first adds pair).0 early in
          ((h.0.0, inr ((keeps.exact h.0.0).0 h.0.1), h.0.2), h.1)
      | inr more ↦
          let h = (paired fresh pair).0 more.0 in
          ((h.0, inl h.1, h.2), more.1)
    ],
    λ h. (adds_fresh.exact pair).1 (elim h.0.1 [
      | inl new ↦ inr ((paired fresh pair).1 (h.0.0, new, h.0.2), h.1)
      | inr stays ↦ inl ((atomic-paired kept first adds pair).1
          ((h.0.0, (keeps.exact h.0.0).1 stays, h.0.2), h.1))
    ]),
  )
