-- The objects that are held, what is walked to from them, and what is left without that.
use Rattle.std.proofs.Common.{◌≡◌, ◌↔◌, ◌<◌, ◌⊎◌, inl, inr, true, false, not, List, ◌++◌, AllPairs, Contains, refl, sym, ap, subst}
use Rattle.std.specs.List.{filter}
use Rattle.std.proofs.lemmas.List.Elements.{Contains-append_left, Contains-append_right, Contains-append_cases}
use Rattle.std.proofs.lemmas.List.Kept.{AllPairs-filter}
use Rattle.lore_base.specs.TargetSets.{ListsInOrder}
use Rattle.lore_base.proofs.MemberLaws.{Contains-same, Contains-filter, unfiltered}
use Rattle.lore_base.proofs.WalkLaws.{Walk-within}
use Rattle.list_laws.proofs.MemberLaws.{Contains-map, Contains-from_map}
use Rattle.object_search.specs.Reached.{IsWalkedFrom}
use Rattle.oem_reach.specs.Types.{Oid, Edge}
use Rattle.oem_reach.specs.inside.Doubts.{is_listed, IsHeld, outer_children, inner_of, IsStaying, AreLeft}
use Rattle.oem_reach.proofs.ListedLaws.{listed-Decides, listed, not_listed, unlisted}

-- what is left of ascending objects where those that pass are taken out
left_over : (Passes : Oid → Type 0) (oids passing left : List Oid) → AllPairs (λ a b. a.0 < b.0) oids
    → ((oid : Oid) → Contains passing oid ↔ Passes oid) → left ≡ filter (λ oid. not (is_listed passing oid)) oids → AreLeft oids Passes left
left_over Passes oids passing left ascend exact is = record {
  ascend = subst (AllPairs (λ (a b : Oid). a.0 < b.0)) (sym is) (AllPairs-filter (λ (a b : Oid). a.0 < b.0) (λ oid. not (is_listed passing oid)) oids ascend);
  only = λ oid at.
      let passed = unfiltered (λ o. not (is_listed passing o)) oids oid (subst (λ (l : List Oid). Contains l oid) is at) in
      (passed.0, λ passes. unlisted passing oid passed.1 ((exact oid).1 passes));
  each = λ oid at. elim (is_listed passing oid) as (λ b. is_listed passing oid ≡ b → Contains left oid ⊎ Passes oid) [
    | true ↦ λ there. inr ((exact oid).0 ((listed-Decides passing oid).0 there))
    | false ↦ λ none. inl (subst (λ (l : List Oid). Contains l oid) (sym is) (Contains-filter (λ o. not (is_listed passing o)) oids oid at (ap not none)))
  ] refl;
}

module _ (oids named : List Oid) (edges : List Edge) (inside : (edge : Edge) → Contains edges edge → Contains oids edge.child)
    (held : List Oid) (held_is : held ≡ filter (is_listed oids) named ++ outer_children oids edges) where
  are_held : (oid : Oid) → Contains held oid ↔ IsHeld oids named edges oid
  are_held oid =
      let by_name : List Oid = filter (is_listed oids) named in
      let outer : List Edge = filter (λ (edge : Edge). not (is_listed oids edge.parent)) edges in (
        λ at. elim (Contains-append_cases by_name (outer_children oids edges) oid (subst (λ (l : List Oid). Contains l oid) held_is at)) [
          | inl first ↦
              let found = unfiltered (is_listed oids) named oid first in
              ((listed-Decides oids oid).0 found.1, inl found.0)
          | inr second ↦
              let found = Contains-from_map (λ (edge : Edge). edge.child) outer oid second in
              let edge = found.0 in
              let passed = unfiltered (λ (e : Edge). not (is_listed oids e.parent)) edges edge found.1 in
              (Contains-same oids edge.child oid found.2 (inside edge passed.0), inr (edge, passed.0, found.2, unlisted oids edge.parent passed.1))
        ],
        λ holds. subst (λ (l : List Oid). Contains l oid) (sym held_is) (elim holds.1 [
          | inl first ↦ Contains-append_left by_name (outer_children oids edges) oid
              (Contains-filter (is_listed oids) named oid first (listed oids oid holds.0))
          | inr child ↦
              let edge = child.0 in
              let passed = Contains-filter (λ (e : Edge). not (is_listed oids e.parent)) edges edge child.1 (ap not (not_listed oids edge.parent child.3)) in
              Contains-append_right by_name (outer_children oids edges) oid
              (Contains-same (outer_children oids edges) edge.child oid child.2 (Contains-map (λ (e : Edge). e.child) outer edge passed))
        ]),
      )

  -- those that nothing held walks to are left
  pub unheld_left : (inner : List Edge) (staying left : List Oid) → AllPairs (λ a b. a.0 < b.0) oids
      → ((edge : Edge) → Contains inner edge ↔ Contains (inner_of oids edges) edge)
      → ListsInOrder (IsWalkedFrom inner held) staying → left ≡ filter (λ oid. not (is_listed staying oid)) oids
      → AreLeft oids (IsStaying oids named edges) left
  unheld_left inner staying left ascend inner_is lists is =
      left_over (IsStaying oids named edges) oids staying left ascend
      (λ oid. (
        λ at. (
            let walked = (lists.exact oid).0 at in (
              walked.0,
              walked.1,
              (are_held walked.0).0 walked.2,
              Walk-within inner (inner_of oids edges) (λ edge there. (inner_is edge).0 there) walked.0 walked.1 oid walked.3,
            )),
        λ stays. (lists.exact oid).1 (
          stays.0,
          stays.1,
          (are_held stays.0).1 stays.2,
          Walk-within (inner_of oids edges) inner (λ edge there. (inner_is edge).1 there) stays.0 stays.1 oid stays.3,
        ),
      )) is
