-- The steps of a set that extends that of a node.
use Rattle.std.proofs.Common.{◌-◌, refl, length-append, ◌≡◌, ◌⊎◌, ◌↔◌, inl, inr, ℕ, ◌+◌, ◌<◌, ◌≤◌, List, [], ◌∷◌, ◌++◌, map, length, take, drop, get_or}
use Rattle.std.proofs.Common.{Contains, Option, Some, None, IfSome, sym, ap, ◌∙◌, subst, arith}
use Rattle.std.specs.List.{slice_get}
use Rattle.std.proofs.lemmas.List.{get_or_append_left, get_or-append_right, take_all, take_more, take-append-drop, length-take}
use Rattle.std.proofs.lemmas.List.Elements.{All-contains, Contains-push, Contains-push_cases, Contains-append_left}
use Rattle.std.proofs.lemmas.Option.{slice_get_within, get_or_from_slice_get}
use Rattle.lore_base.proofs.MemberLaws.{Contains-same}
use Rattle.lore_base.proofs.ToldLaws.{told_member, told_oid}
use Rattle.lore_base.specs.Walks.{edge_of}
use Rattle.lore_base.specs.TargetSets.{LeavesTo}
use Rattle.list_laws.proofs.MemberLaws.{All-from_members, Contains-map}
use Rattle.list_laws.proofs.PlaceLaws.{place_of_member, slice_get-append_left}
use Rattle.oem_set.specs.Sets.{IsSet}
use Rattle.oem_set.proofs.AppendLaws.{both-lists}
use Rattle.set_steps.specs.SetSteps.{AreSteps}
use Rattle.set_explorer.specs.Types.{Oid, Label, Edge, Node, GuideNode, Origin, Kept}
use Rattle.set_explorer.specs.Touched.{Meet, IsExtended}
use Rattle.set_explorer.specs.PlannedNodes.{origin_set}
use Rattle.set_explorer.specs.inside.Founds.{steps_of}
use Rattle.set_explorer.specs.Changes.{IsChange}
use Rattle.set_explorer.specs.inside.Gains.{AreUnions}
use Rattle.set_explorer.proofs.GainLaws.{fresh-leaves, joined-steps}

module _ (kept : List GuideNode) (dirty grown : List Oid) (fresh after : List Edge)
    (change : IsChange kept dirty grown fresh after) (own more set : List Oid) (is : IsExtended dirty grown own more set) where
  parts : (oid : Oid) → Contains set oid ↔ (Contains own oid ⊎ Contains more oid)
  parts oid = (
    λ there. elim (told_member told_oid own oid) [
      | inl old ↦ inl old
      | inr new ↦ inr ((is.others.exact oid).1 (there, new))
    ],
    λ either. elim either [
      | inl old ↦ All-contains (Contains set) own oid is.part old
      | inr new ↦ ((is.others.exact oid).0 new).0
    ],
  )

  -- what leaves the node's set left it before
  own-leaves : (label : Label) (oid : Oid) → LeavesTo after own label oid ↔ LeavesTo change.before own label oid
  own-leaves label oid =
      let either = fresh-leaves kept dirty grown fresh after change own is.clean label oid in (
        λ leaves. elim (either.0 leaves) [
          | inl was ↦ was
          | inr new ↦ absurd (is.still (
            new.from,
            new.member,
            (change.grown_are new.from).1
                (Contains-map (λ (e : Edge). e.parent) fresh (edge_of new.from label oid) new.edge),
          ))
        ],
        λ was. either.1 (inl was),
      )

  -- and what leaves the extended one left that one before, or leaves the other members
  set-leaves : (label : Label) (oid : Oid) → LeavesTo after set label oid
      ↔ (LeavesTo change.before own label oid ⊎ LeavesTo after more label oid)
  set-leaves label oid = (
    λ leaves. elim ((parts leaves.from).0 leaves.member) [
      | inl old ↦ inl ((own-leaves label oid).0 (record { from = leaves.from; member = old; edge = leaves.edge }))
      | inr new ↦ inr (record { from = leaves.from; member = new; edge = leaves.edge })
    ],
    λ either. elim either [
      | inl was ↦ (let now = (own-leaves label oid).1 was in
          record { from = now.from; member = (parts now.from).1 (inl now.member); edge = now.edge })
      | inr new ↦ record { from = new.from; member = (parts new.from).1 (inr new.member); edge = new.edge }
    ],
  )

  abbrev as_step : Label × Node → Label × List Oid
  as_step edge = (edge.0, origin_set kept (Kept edge.1))

  pub extended-steps : (edges : List (Label × Node)) (row : List (Label × List Oid)) (targets : List (Label × Origin))
      → AreSteps change.before own (map as_step edges) → AreSteps after more row → AreUnions kept edges row targets
      → AreSteps after set (steps_of kept targets)
  extended-steps edges row targets own_are row_are unions =
      joined-steps kept edges row targets change.before after after own more set own_are row_are unions set-leaves

-- one object more in a list that has what two others have, and in one of these
module _ (whole one other : List Oid) (are : (oid : Oid) → Contains whole oid ↔ (Contains one oid ⊎ Contains other oid))
    (x : Oid) where
  pub one-more : (oid : Oid) → Contains (whole ++ x ∷ []) oid ↔ (Contains (one ++ x ∷ []) oid ⊎ Contains other oid)
  one-more oid = (
    λ there. elim (Contains-push_cases whole x oid there) [
      | inl early ↦ elim ((are oid).0 early) [
        | inl first ↦ inl (Contains-append_left one (x ∷ []) oid first)
        | inr second ↦ inr second
      ]
      | inr same ↦ inl (Contains-same (one ++ x ∷ []) x oid same (Contains-push one x))
    ],
    λ either. elim either [
      | inl there ↦ elim (Contains-push_cases one x oid there) [
        | inl early ↦ Contains-append_left whole (x ∷ []) oid ((are oid).1 (inl early))
        | inr same ↦ Contains-same (whole ++ x ∷ []) x oid same (Contains-push whole x)
      ]
      | inr second ↦ Contains-append_left whole (x ∷ []) oid ((are oid).1 (inr second))
    ],
  )

  pub other-more : (oid : Oid) → Contains (whole ++ x ∷ []) oid ↔ (Contains one oid ⊎ Contains (other ++ x ∷ []) oid)
  other-more oid = (
    λ there. elim (Contains-push_cases whole x oid there) [
      | inl early ↦ elim ((are oid).0 early) [
        | inl first ↦ inl first
        | inr second ↦ inr (Contains-append_left other (x ∷ []) oid second)
      ]
      | inr same ↦ inr (Contains-same (other ++ x ∷ []) x oid same (Contains-push other x))
    ],
    λ either. elim either [
      | inl first ↦ Contains-append_left whole (x ∷ []) oid ((are oid).1 (inl first))
      | inr there ↦ elim (Contains-push_cases other x oid there) [
        | inl early ↦ Contains-append_left whole (x ∷ []) oid ((are oid).1 (inr early))
        | inr same ↦ Contains-same (whole ++ x ∷ []) x oid same (Contains-push whole x)
      ]
    ],
  )

-- parts of two lists, and a third one that has what the first part has beside the second
module _ (oids others more : List Oid) (i next : ℕ) (parts : (oid : Oid) → Contains (take i oids) oid
    ↔ (Contains (take next others) oid ⊎ Contains more oid)) (within : i < length oids) where
  pub more-met : slice_get others next ≡ Some (get_or oids i (record { 0 = 0 })) → (oid : Oid)
      → Contains (take (i + 1) oids) oid ↔ (Contains (take (next + 1) others) oid ⊎ Contains more oid)
  more-met there =
      let inside = slice_get_within others next (get_or oids i (record { 0 = 0 })) there in
      let front = take_more oids i (record { 0 = 0 }) within in
      let second = take_more others next (record { 0 = 0 }) inside
      ∙ ap (λ (x : Oid). take next others ++ x ∷ []) (get_or_from_slice_get others next _ (record { 0 = 0 }) there) in
      subst (λ (l : List Oid). (oid : Oid) → Contains (take (i + 1) oids) oid ↔ (Contains l oid ⊎ Contains more oid)) (sym second)
      (subst (λ (l : List Oid). (oid : Oid) → Contains l oid
      ↔ (Contains (take next others ++ get_or oids i (record { 0 = 0 }) ∷ []) oid ⊎ Contains more oid)) (sym front)
      (one-more (take i oids) (take next others) more parts (get_or oids i (record { 0 = 0 }))))

  pub more-new : (oid : Oid) → Contains (take (i + 1) oids) oid
      ↔ (Contains (take next others) oid ⊎ Contains (more ++ get_or oids i (record { 0 = 0 }) ∷ []) oid)
  more-new =
      subst (λ (l : List Oid). (oid : Oid) → Contains l oid
      ↔ (Contains (take next others) oid ⊎ Contains (more ++ get_or oids i (record { 0 = 0 }) ∷ []) oid))
      (sym (take_more oids i (record { 0 = 0 }) within))
      (other-more (take i oids) (take next others) more parts (get_or oids i (record { 0 = 0 })))

-- and the third one has none of the second part, where the first list ascends
module _ (oids others more : List Oid) (i next : ℕ) (parts : (oid : Oid) → Contains (take i oids) oid
    ↔ (Contains (take next others) oid ⊎ Contains more oid)) (within : i < length oids) (ascend : IsSet oids)
    (apart : ¬ Meet (take next others) more) where
  before-less : (oid : Oid) → Contains (take i oids) oid → oid.0 < (get_or oids i (record { 0 = 0 })).0
  before-less oid there =
      let from = place_of_member (take i oids) oid there in
      let inside = slice_get_within (take i oids) from.0 oid from.1 in
      let in_all : slice_get oids from.0 ≡ Some oid =
      subst (λ (l : List Oid). slice_get l from.0 ≡ Some oid) (take-append-drop i oids)
      (slice_get-append_left (take i oids) (drop i oids) from.0 oid from.1) in
      subst (λ (o : Oid). o.0 < (get_or oids i (record { 0 = 0 })).0)
      (get_or_from_slice_get oids from.0 oid (record { 0 = 0 }) in_all)
      (ascend from.0 i (record { 0 = 0 }) (omega (arith, inside, length-take i oids)) within)

  pub apart-met : slice_get others next ≡ Some (get_or oids i (record { 0 = 0 })) → ¬ Meet (take (next + 1) others) more
  apart-met there meet =
      let x = get_or oids i (record { 0 = 0 }) in
      let inside = slice_get_within others next x there in
      let second : take (next + 1) others ≡ take next others ++ x ∷ [] = take_more others next (record { 0 = 0 }) inside
      ∙ ap (λ (o : Oid). take next others ++ o ∷ []) (get_or_from_slice_get others next x (record { 0 = 0 }) there) in
      elim (Contains-push_cases (take next others) x meet.0 (subst (λ (l : List Oid). Contains l meet.0) second meet.1)) [
        | inl early ↦ apart (meet.0, early, meet.2)
        | inr same ↦ omega (arith, before-less meet.0 ((parts meet.0).1 (inr meet.2)), ap (λ (o : Oid). o.0) same)
      ]

  pub apart-new : ¬ Meet (take next others) (more ++ get_or oids i (record { 0 = 0 }) ∷ [])
  apart-new meet = elim (Contains-push_cases more (get_or oids i (record { 0 = 0 })) meet.0 meet.2) [
    | inl early ↦ apart (meet.0, meet.1, early)
    | inr same ↦ omega (arith, before-less meet.0 ((parts meet.0).1 (inl meet.1)), ap (λ (o : Oid). o.0) same)
  ]

pub apart-all : (others more set : List Oid) (next : ℕ) → (¬ Meet (take next others) more) → length others ≤ next
    → ((oid : Oid) → Contains set oid ↔ Contains more oid) → ¬ Meet others set
apart-all others more set next apart none same meet =
    apart (
      meet.0,
      subst (λ (l : List Oid). Contains l meet.0) (sym (take_all next others none)) meet.1,
      (same meet.0).0 meet.2,
    )

pub more-all : (oids others more set : List Oid) (i next : ℕ) → ((oid : Oid) → Contains (take i oids) oid
    ↔ (Contains (take next others) oid ⊎ Contains more oid)) → length oids ≤ i → length others ≤ next
    → ((oid : Oid) → Contains set oid ↔ Contains more oid)
    → (oid : Oid) → Contains oids oid ↔ (Contains others oid ⊎ Contains set oid)
more-all oids others more set i next parts past none same oid =
    let first = take_all i oids past in
    let second = take_all next others none in (
      λ there. elim ((parts oid).0 (subst (λ (l : List Oid). Contains l oid) (sym first) there)) [
        | inl old ↦ inl (subst (λ (l : List Oid). Contains l oid) second old)
        | inr new ↦ inr ((same oid).1 new)
      ],
      λ either. subst (λ (l : List Oid). Contains l oid) first ((parts oid).1 (elim either [
        | inl old ↦ inl (subst (λ (l : List Oid). Contains l oid) (sym second) old)
        | inr new ↦ inr ((same oid).0 new)
      ])),
    )

-- what stands behind others, where all ascend
module _ (oids others rest : List Oid) (are : oids ≡ others ++ rest) (ascend : IsSet oids) where
  pub rest-apart : ¬ Meet others rest
  rest-apart meet =
      let oid = meet.0 in
      let first = meet.1 in
      let second = meet.2 in
      let place = length others + second.0 in
      let left : place - length others ≡ second.0 = omega arith in
      let less = subst IsSet are ascend first.0 place oid (omega (arith, first.1))
      (omega (arith, second.1, length-append others rest)) in
      let early : get_or (others ++ rest) first.0 oid ≡ oid = get_or_append_left others rest oid first.0 first.1 ∙ first.2 in
      let late : get_or (others ++ rest) place oid ≡ oid =
      get_or-append_right others rest (length others) place oid refl (omega arith)
      ∙ ap (λ (k : ℕ). get_or rest k oid) left ∙ second.2 in
      omega (arith, less, ap (λ (o : Oid). o.0) early, ap (λ (o : Oid). o.0) late)

  pub rest-parts : (oid : Oid) → Contains oids oid ↔ (Contains others oid ⊎ Contains rest oid)
  rest-parts oid = subst (λ (l : List Oid). Contains l oid ↔ (Contains others oid ⊎ Contains rest oid)) (sym are)
      (both-lists others rest oid)

-- what a clean set that gained nothing is extended by
pub extended-by : (dirty grown own set : List Oid) → (¬ Meet own dirty) → (¬ Meet own grown) → (found : Option (List Oid))
    → IfSome found (λ more. IsSet more) → IfSome found (λ more. ¬ Meet own more)
    → IfSome found (λ more. (oid : Oid) → Contains set oid ↔ (Contains own oid ⊎ Contains more oid))
    → IfSome found (λ more. IsExtended dirty grown own more set)
extended-by dirty grown own set clean still None ascend apart parts = tt
extended-by dirty grown own set clean still (Some more) ascend apart parts =
    record {
      clean = clean;
      still = still;
      part = All-from_members (Contains set) own (λ oid there. (parts oid).1 (inl there));
      others = record {
        ascending = ascend;
        exact = λ oid. (
          λ new. ((parts oid).1 (inr new), λ old. apart (oid, old, new)),
          λ both. elim ((parts oid).0 both.0) [
            | inl old ↦ absurd (both.1 old)
            | inr new ↦ new
          ],
        );
      };
    }
