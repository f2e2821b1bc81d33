-- Ascending objects: how many there are, which value an object has, and what made objects behind them keep.
use Rattle.std.proofs.Common.{◌≡◌, ℕ, ◌+◌, ◌<◌, ◌≤◌, List, [], ◌∷◌, length, get_or, All, Contains, zero, suc, sym, ap, ◌∙◌, inl, inr, arith, true, eqb}
use Rattle.std.proofs.Common.{Err, nat_cmp, Less, Equal, Greater}
use Rattle.std.specs.List.Sorted.{IsBinarySearchResult, IsNonDecreasingBy}
use Rattle.std.specs.Ordering.{ordering_index}
use Rattle.std.proofs.lemmas.Bool.{cases_lt}
use Rattle.std.proofs.lemmas.Bool.Decides.{nat_tests}
use Rattle.std.proofs.lemmas.Cmp.{ranked}
use Rattle.std.proofs.lemmas.List.{get_or_default}
use Rattle.graph_changes.specs.Types.{Oid, Value}
use Rattle.lore_base.specs.Databases.{AreAscendingObjects, IsLive}
use Rattle.lore_base.specs.ChangeSets.{AreNumberedFrom}

-- an object at a place has a number above the place
number_above : (objects : List (Oid × Value)) → AreAscendingObjects objects → All (λ o. 1 ≤ o.0.0) objects → (d : Oid × Value) (k : ℕ) → k < length objects → k < (get_or objects k d).0.0
number_above objects ascend from_one d zero h = omega (arith, from_one 0 d h)
number_above objects ascend from_one d (suc k) h =
    let lower = number_above objects ascend from_one d k (omega arith) in
    omega (arith, ascend k (suc k) d (omega arith) h)

-- there are fewer objects than the next number
pub length-objects : (objects : List (Oid × Value)) (next : ℕ) → AreAscendingObjects objects → All (λ o. (1 ≤ o.0.0) × (o.0.0 < next)) objects → 1 ≤ next → length objects < next
length-objects [] next ascend numbered h = omega arith
length-objects (o ∷ others) next ascend numbered h =
    let above = number_above (o ∷ others) ascend (λ k d lt. (numbered k d lt).0) o (length others) (omega arith) in
    omega (arith, (numbered (length others) o (omega arith)).1)

-- what stands at a place with the object's number is the object with its value
pub found_value : (objects : List (Oid × Value)) (oid : Oid) (place : ℕ) (d : Oid × Value) → place < length objects → nat_cmp (get_or objects place d).0.0 oid.0 ≡ Equal → Contains objects (oid, (get_or objects place d).1)
found_value objects oid place d lt equal =
    let value = (get_or objects place d).1 in
    let number : (get_or objects place d).0.0 ≡ oid.0 = ranked _ _ Equal (sym equal) in
    let same : ◌≡◌ {A = Oid × Value} (get_or objects place d) (oid, value) = ap (λ n. (record { 0 = n }, value)) number in
    (place, lt, get_or_default objects place (oid, value) d lt ∙ same)

-- an object that stands at a place has the value that stands there
pub here_value : (objects : List (Oid × Value)) (oid : Oid) (place : ℕ) (object : Oid × Value) → place < length objects → object ≡ get_or objects place object → eqb object.0.0 oid.0 ≡ true → Contains objects (oid, object.1)
here_value objects oid place object lt is tested =
    let number : object.0.0 ≡ oid.0 = grind (arith, nat_tests) in
    let same : ◌≡◌ {A = Oid × Value} object (oid, object.1) = ap (λ n. (record { 0 = n }, object.1)) number in
    (place, lt, get_or_default objects place (oid, object.1) object lt ∙ sym is ∙ same)

pub comparison_rises : (a b n : ℕ) → a ≤ b → ordering_index (nat_cmp a n) ≤ ordering_index (nat_cmp b n)
comparison_rises a b n h = grind (arith, nat_tests)

-- along ascending objects the comparisons with a number rise
comparisons_rise : (objects : List (Oid × Value)) → AreAscendingObjects objects → (n : ℕ) → IsNonDecreasingBy (λ o. ordering_index (nat_cmp o.0.0 n)) objects
comparisons_rise objects ascend n i j d le lt =
    comparison_rises (get_or objects i d).0.0 (get_or objects j d).0.0 n
    (elim (cases_lt i j) [ inl before ↦ omega (arith, ascend i j d before lt) | inr ge ↦ let same : i ≡ j = omega arith in omega (arith, ap (λ k. (get_or objects k d).0.0) same) ])

-- where a search ends at a gap, the object isn't live
pub none_live : (objects : List (Oid × Value)) → AreAscendingObjects objects → (oid : Oid) (place : ℕ) → IsBinarySearchResult (λ o. nat_cmp o.0.0 oid.0) objects (Err place) → IsLive objects oid → ⊥
none_live objects ascend oid place gap live =
    let parts = gap (comparisons_rise objects ascend oid.0) in
    let value = live.0 in
    let k = live.1.0 in
    let at = ap (λ o. o.0.0) live.1.2 in
    elim (cases_lt k place) [
      | inl before ↦ let lower : (get_or objects k (oid, value)).0.0 < oid.0 = ranked _ _ Less (sym (parts.0 k (oid, value) (omega arith) before)) in omega (arith, at)
      | inr after ↦ let higher : oid.0 < (get_or objects k (oid, value)).0.0 = ranked _ _ Greater (sym (parts.1 k (oid, value) after live.1.1)) in omega (arith, at)
    ]

-- made objects are numbered by their places
pub number_at : (next : ℕ) (made : List (Oid × Value)) → AreNumberedFrom next made → (d : Oid × Value) (k : ℕ) → k < length made → (get_or made k d).0.0 ≡ next + k
number_at next [] h d k lt = absurd (omega arith)
number_at next (o ∷ made) h d zero lt = omega (arith, h.0)
number_at next (o ∷ made) h d (suc k) lt = omega (arith, number_at (next + 1) made h.1 d k (omega arith))
