-- A set with objects behind it that are all greater.
use Rattle.std.proofs.Common.{◌≡◌, ◌⊎◌, ◌↔◌, ℕ, ◌-◌, ◌<◌, ◌≤◌, ◌++◌, List, Contains, length, get_or, inl, inr, ap, arith}
use Rattle.std.proofs.lemmas.Bool.{cases_lt}
use Rattle.std.proofs.lemmas.List.Elements.{Contains-append_cases, Contains-append_left, Contains-append_right}
use Rattle.lore_base.proofs.ListLaws.{AllPairs-append}
use Rattle.oem_set.specs.Types.{Oid}
use Rattle.oem_set.specs.Sets.{IsSet}

-- no object of a set is greater than the last, or less than the first
at-most-last : (oids : List Oid) → IsSet oids → (i : ℕ) (d : Oid) → i < length oids
    → (get_or oids i d).0 ≤ (get_or oids (length oids - 1) d).0
at-most-last oids ascend i d within = elim (cases_lt i (length oids - 1)) [
  | inl before ↦ omega (arith, ascend i (length oids - 1) d before (omega (arith, within)))
  | inr last ↦ (
      let same : i ≡ length oids - 1 = omega (arith, within, last) in
      omega (arith, ap (λ (k : ℕ). (get_or oids k d).0) same))
]

at-least-first : (oids : List Oid) → IsSet oids → (i : ℕ) (d : Oid) → i < length oids
    → (get_or oids 0 d).0 ≤ (get_or oids i d).0
at-least-first oids ascend i d within = elim (cases_lt 0 i) [
  | inl before ↦ omega (arith, ascend 0 i d before within)
  | inr first ↦ (
      let same : i ≡ 0 = omega (arith, first) in
      omega (arith, ap (λ (k : ℕ). (get_or oids k d).0) same))
]

pub IsSet-append : (front back : List Oid) → IsSet front → IsSet back
    → ((d : Oid) → 0 < length front → 0 < length back → (get_or front (length front - 1) d).0 < (get_or back 0 d).0)
    → IsSet (front ++ back)
IsSet-append front back ascends climbs behind =
    AllPairs-append (λ (a b : Oid). a.0 < b.0) front back ascends climbs (λ i j d early late.
    omega (
      arith,
      at-most-last front ascends i d early,
      behind d (omega (arith, early)) (omega (arith, late)),
      at-least-first back climbs j d late,
    ))

-- what stands in two lists, one behind the other
pub both-lists : (one other : List Oid) (oid : Oid) → Contains (one ++ other) oid ↔ (Contains one oid ⊎ Contains other oid)
both-lists one other oid = (
  λ at. Contains-append_cases one other oid at,
  λ either. elim either [
    | inl at ↦ Contains-append_left one other oid at
    | inr at ↦ Contains-append_right one other oid at
  ],
)
