-- Whether an object stands in a list, as a binary search tells it.
use Rattle.std.proofs.Common.{◌≡◌, ℕ, ◌<◌, ◌≤◌, ◌==◌, ◌||◌, inl, inr, Bool, true, false, not, List, [], ◌∷◌, length, get_or, AllPairs, Contains, Decides, Equal, Less, Err, refl, sym, ap, ◌∙◌, arith, eq-eqb, true≢false}
use Rattle.std.specs.List.Sorted.{IsBinarySearchResult, IsNonDecreasingBy}
use Rattle.std.specs.Ordering.{nat_cmp, ordering_index}
use Rattle.std.proofs.lemmas.Bool.{cases_lt}
use Rattle.std.proofs.lemmas.Bool.Decides.{nat_tests}
use Rattle.std.proofs.lemmas.List.{get_or_default}
use Rattle.std.proofs.lemmas.Cmp.{tied_itself, nat_cmp_total}
use Rattle.lore_base.proofs.MemberLaws.{Contains-none, Contains-head, Contains-tail, Contains-cases, Contains-same}
use Rattle.list_laws.proofs.OrderLaws.{same_from_cmp, less_from_cmp}
use Rattle.index_traits.proofs.ObjectLaws.{same_oid}
use Rattle.oem_reach.specs.Types.{Oid}
use Rattle.oem_reach.specs.inside.Doubts.{is_listed}

-- whether an object stands in the list
pub listed-Decides : (oids : List Oid) (oid : Oid) → Decides (is_listed oids oid) (Contains oids oid)
listed-Decides [] oid = (λ h. absurd (true≢false (sym h)), λ at. absurd (Contains-none oid at))
listed-Decides (first ∷ oids) oid = by (oid.0 == first.0) refl (listed-Decides oids oid)
  where
    by : (b : Bool) → (oid.0 == first.0) ≡ b → Decides (is_listed oids oid) (Contains oids oid) → Decides (b || is_listed oids oid) (Contains (first ∷ oids) oid)
    by true here _ = (λ _. Contains-same (first ∷ oids) first oid (sym (same_oid oid first here)) (Contains-head first oids), λ _. refl)
    by false apart rest = (
      λ h. Contains-tail first oids oid (rest.0 h),
      λ at. elim (Contains-cases first oids oid at) [
        | inl same ↦ absurd (true≢false (sym (eq-eqb oid.0 first.0 (ap (λ (o : Oid). o.0) (sym same))) ∙ apart))
        | inr later ↦ rest.1 later
      ],
    )

-- a binary search among ascending objects tells
comparison_rises : (a b x : Oid) → a.0 < b.0 → ordering_index (nat_cmp a.0 x.0) ≤ ordering_index (nat_cmp b.0 x.0)
comparison_rises a b x less = grind (arith, nat_tests)

comparisons_rise : (oids : List Oid) → AllPairs (λ a b. a.0 < b.0) oids → (x : Oid) → IsNonDecreasingBy (λ o. ordering_index (nat_cmp o.0 x.0)) oids
comparisons_rise oids ascend x i j d le lt = elim (cases_lt i j) [
  | inl before ↦ comparison_rises (get_or oids i d) (get_or oids j d) x (ascend i j d before lt)
  | inr ge ↦ let same : i ≡ j = omega arith in omega (arith, ap (λ k. ordering_index (nat_cmp ((get_or oids k d).0) x.0)) same)
]

pub found_oid : (oids : List Oid) (oid : Oid) (place : ℕ) (d : Oid) → place < length oids → nat_cmp ((get_or oids place d).0) oid.0 ≡ Equal → Contains oids oid
found_oid oids oid place d lt equal =
    (place, lt, get_or_default oids place oid d lt ∙ (let same = same_from_cmp ((get_or oids place d).0) oid.0 equal in λ i. record { 0 = same i }))

pub none_found : (oids : List Oid) → AllPairs (λ a b. a.0 < b.0) oids → (oid : Oid) (place : ℕ)
    → IsBinarySearchResult (λ o. nat_cmp o.0 oid.0) oids (Err place) → Contains oids oid → ⊥
none_found oids ascend oid place gap at =
    let parts = gap (comparisons_rise oids ascend oid) in
    let k = at.0 in
    let same : nat_cmp ((get_or oids k oid).0) oid.0 ≡ Equal = ap (λ (o : Oid). nat_cmp o.0 oid.0) at.2 ∙ tied_itself nat_cmp_total oid.0 in
    elim (cases_lt k place) [
      | inl before ↦ omega (arith, ap ordering_index (sym (parts.0 k oid (omega arith) before) ∙ same))
      | inr after ↦ omega (arith, ap ordering_index (sym (parts.1 k oid after at.1) ∙ same))
    ]

pub listed : (oids : List Oid) (oid : Oid) → Contains oids oid → is_listed oids oid ≡ true
listed oids oid at = (listed-Decides oids oid).1 at

pub not_listed : (oids : List Oid) (oid : Oid) → (Contains oids oid → ⊥) → is_listed oids oid ≡ false
not_listed oids oid none = elim (is_listed oids oid) as (λ b. is_listed oids oid ≡ b → b ≡ false) [
  | true ↦ λ is. absurd (none ((listed-Decides oids oid).0 is))
  | false ↦ λ _. refl
] refl

pub unlisted : (oids : List Oid) (oid : Oid) → not (is_listed oids oid) ≡ true → Contains oids oid → ⊥
unlisted oids oid none at = true≢false (sym none ∙ ap not (listed oids oid at))

-- objects that were put in order ascend
pub ascend_sorted : (oids : List Oid) → AllPairs (λ a b. nat_cmp a.0 b.0 ≡ Less) oids → AllPairs (λ a b. a.0 < b.0) oids
ascend_sorted oids ascend = λ i j d below within. less_from_cmp (get_or oids i d).0 (get_or oids j d).0 (ascend i j d below within)
