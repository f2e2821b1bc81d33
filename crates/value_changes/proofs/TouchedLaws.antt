-- The objects that values are given to, and those that changes touch.
use Rattle.std.proofs.Common.{◌⊎◌, ◌↔◌, List, [], ◌++◌, map, Contains, subst, inl, inr}
use Rattle.std.proofs.lemmas.List.Elements.{Contains-append_left, Contains-append_right, Contains-append_cases}
use Rattle.lore_base.specs.Databases.{IsLive}
use Rattle.lore_base.proofs.MemberLaws.{Contains-same}
use Rattle.list_laws.proofs.MemberLaws.{Contains-map, Contains-from_map}
use Rattle.value_changes.specs.Types.{Oid, Edge, Value}
use Rattle.value_changes.specs.Reads.{IsOldValued}
use Rattle.value_changes.specs.inside.Sets.{AreAdded}
use Rattle.value_changes.specs.inside.Touched.{child_of, HasParent, IsOldGiven, IsOldTouched}
use Rattle.value_changes.proofs.AddedLaws.{added-alone}

-- a lost or a fresh edge enters the object, or it is one of these
abbrev pub IsTouched : List Edge → List Edge → List Oid → Oid → Type 0
IsTouched lost fresh oids oid = Contains oids oid ⊎ (HasParent lost oid ⊎ HasParent fresh oid)

-- these objects, and the children of the edges
abbrev pub touched_of : List Edge → List Edge → List Oid → List Oid
touched_of lost fresh oids = (oids ++ map child_of lost) ++ map child_of fresh

pub given-listed : (given : List (Oid × Value)) (oid : Oid)
    → Contains (map (λ (object : Oid × Value). object.0) given) oid ↔ IsLive given oid
given-listed given oid = (
  λ at. (
      let from = Contains-from_map (λ (object : Oid × Value). object.0) given oid at in
      (from.0.1, subst (λ (o : Oid). Contains given (o, from.0.1)) from.2 from.1)),
  λ live. Contains-map (λ (object : Oid × Value). object.0) given (oid, live.0) live.1,
)

children : (edges : List Edge) (oid : Oid)
    → Contains (map child_of edges) oid ↔ HasParent edges oid
children edges oid = (
  λ at. Contains-from_map child_of edges oid at,
  λ h. Contains-same (map child_of edges) h.0.child oid h.2
      (Contains-map child_of edges h.0 h.1),
)

pub touched-listed : (lost fresh : List Edge) (given : List Oid) (oid : Oid)
    → Contains (touched_of lost fresh given) oid ↔ IsTouched lost fresh given oid
touched-listed lost fresh given oid =
    let of_lost = map child_of lost in
    let of_fresh = map child_of fresh in (
      λ at. elim (Contains-append_cases (given ++ of_lost) of_fresh oid at) [
        | inl front ↦ elim (Contains-append_cases given of_lost oid front) [
          | inl first ↦ inl first
          | inr second ↦ inr (inl ((children lost oid).0 second))
        ]
        | inr third ↦ inr (inr ((children fresh oid).0 third))
      ],
      λ h. elim h [
        | inl first ↦ Contains-append_left (given ++ of_lost) of_fresh oid (Contains-append_left given of_lost oid first)
        | inr edges ↦ elim edges [
          | inl second ↦ Contains-append_left (given ++ of_lost) of_fresh oid
              (Contains-append_right given of_lost oid ((children lost oid).1 second))
          | inr third ↦ Contains-append_right (given ++ of_lost) of_fresh oid ((children fresh oid).1 third)
        ]
      ],
    )

module _ (objects objects_then : List (Oid × Value)) where
  -- the objects that values are given to, of those that were live and have an atomic value
  pub old-given : (given : List (Oid × Value)) (oids : List Oid)
      → AreAdded (λ (object : Oid × Value). object.0) (IsOldValued objects objects_then) given [] oids → (oid : Oid)
      → Contains oids oid ↔ IsOldGiven objects objects_then given oid
  old-given given oids adds oid =
      let alone = added-alone (λ (object : Oid × Value). object.0) (IsOldValued objects objects_then) given oids adds oid in (
        λ at. ((given-listed given oid).0 (alone.0 at).0, (alone.0 at).1),
        λ h. alone.1 ((given-listed given oid).1 h.0, h.1),
      )

  -- these objects with the children of the edges, of those that were live and have an atomic value
  pub old-touched : (lost fresh : List Edge) (oids first second : List Oid)
      → AreAdded child_of (IsOldValued objects objects_then) lost oids first
      → AreAdded child_of (IsOldValued objects objects_then) fresh first second → (oid : Oid)
      → Contains second oid ↔ IsOldTouched objects objects_then lost fresh oids oid
  old-touched lost fresh oids first second adds adds_fresh oid = (
    λ at. elim ((adds_fresh.exact oid).0 at) [
      | inl early ↦ elim ((adds.exact oid).0 early) [
        | inl one ↦ inl one
        | inr h ↦ inr (inl ((children lost oid).0 h.0), h.1)
      ]
      | inr h ↦ inr (inr ((children fresh oid).0 h.0), h.1)
    ],
    λ h. (adds_fresh.exact oid).1 (elim h [
      | inl one ↦ inl ((adds.exact oid).1 (inl one))
      | inr child ↦ elim child.0 [
        | inl of_lost ↦ inl ((adds.exact oid).1 (inr ((children lost oid).1 of_lost, child.1)))
        | inr of_fresh ↦ inr ((children fresh oid).1 of_fresh, child.1)
      ]
    ]),
  )
