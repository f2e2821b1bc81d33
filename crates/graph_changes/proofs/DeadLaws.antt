-- A binary search among ascending objects tells which stand there.
use Rattle.std.proofs.Common.{◌≡◌, ℕ, ◌<◌, eqb, true, nat_cmp, Less, Equal, Greater, Err, List, length, get_or, Contains}
use Rattle.std.proofs.Common.{sym, ap, ◌∙◌, inl, inr, arith}
use Rattle.std.specs.List.Sorted.{IsBinarySearchResult, IsNonDecreasingBy}
use Rattle.std.specs.Ordering.{ordering_index}
use Rattle.std.proofs.lemmas.Bool.{cases_lt}
use Rattle.std.proofs.lemmas.Bool.Decides.{nat_tests}
use Rattle.std.proofs.lemmas.Cmp.{ranked}
use Rattle.std.proofs.lemmas.List.{get_or_default}
use Rattle.graph_changes.specs.Types.{Oid}
use Rattle.graph_changes.specs.Left.{AreAscendingOids, is_among}
use Rattle.graph_changes.proofs.ObjectLaws.{comparison_rises}
use Rattle.graph_changes.proofs.LeftLaws.{among}

pub found_oid : (oids : List Oid) (oid : Oid) (place : ℕ) (d : Oid) → place < length oids
    → nat_cmp (get_or oids place d).0 oid.0 ≡ Equal → Contains oids oid
found_oid oids oid place d lt equal =
    let number : (get_or oids place d).0 ≡ oid.0 = ranked _ _ Equal (sym equal) in
    (place, lt, get_or_default oids place oid d lt ∙ ap (λ (n : ℕ). record { 0 = n }) number)

oids_rise : (oids : List Oid) → AreAscendingOids oids → (n : ℕ)
    → IsNonDecreasingBy (λ (o : Oid). ordering_index (nat_cmp o.0 n)) oids
oids_rise oids ascend n i j d le lt =
    comparison_rises (get_or oids i d).0 (get_or oids j d).0 n
    (elim (cases_lt i j) [ inl before ↦ omega (arith, ascend i j d before lt) | inr ge ↦ let same : i ≡ j = omega arith in omega (arith, ap (λ k. (get_or oids k d).0) same) ])

pub no_oid : (oids : List Oid) → AreAscendingOids oids → (oid : Oid) (place : ℕ)
    → IsBinarySearchResult (λ (o : Oid). nat_cmp o.0 oid.0) oids (Err place) → Contains oids oid → ⊥
no_oid oids ascend oid place gap at =
    let parts = gap (oids_rise oids ascend oid.0) in
    let k = at.0 in
    let same = ap (λ (o : Oid). o.0) at.2 in
    elim (cases_lt k place) [
      | inl before ↦ let lower : (get_or oids k oid).0 < oid.0 = ranked _ _ Less (sym (parts.0 k oid (omega arith) before)) in omega (arith, same)
      | inr after ↦ let higher : oid.0 < (get_or oids k oid).0 = ranked _ _ Greater (sym (parts.1 k oid after at.1)) in omega (arith, same)
    ]

-- an object that stands at a place is among these
pub among_at : (oids : List Oid) (oid : Oid) (place : ℕ) (other : Oid) → place < length oids → other ≡ get_or oids place other
    → eqb other.0 oid.0 ≡ true → is_among oids oid ≡ true
among_at oids oid place other lt is tested =
    let number : other.0 ≡ oid.0 = grind (arith, nat_tests) in
    among oids oid (place, lt, get_or_default oids place oid other lt ∙ sym is ∙ ap (λ (n : ℕ). record { 0 = n }) number)
