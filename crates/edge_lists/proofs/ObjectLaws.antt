-- The heads of objects' lists, where one of them is set.
use Rattle.std.proofs.Common.{◌≡◌, ◌≢◌, ℕ, zero, suc, ◌-◌, ◌<◌, ◌≤◌, Option, Some, None, Bool, cond, ltb, nat_eq, nat_cmp, true, false, Less, Equal, Greater, Err, List, [], ◌∷◌, length, get_or, set, map, All, refl, sym, ap, ◌∙◌, inl, inr, arith}
use Rattle.std.specs.Bool.{OnTrue}
use Rattle.std.specs.List.{slice_get}
use Rattle.std.specs.List.Sorted.{IsBinarySearchResult, IsNonDecreasingBy}
use Rattle.std.specs.Ordering.{ordering_index}
use Rattle.std.proofs.lemmas.Bool.{cases_eq, cases_lt, ltb-true}
use Rattle.std.proofs.lemmas.Bool.Decides.{nat_tests}
use Rattle.std.proofs.lemmas.Cmp.{ranked}
use Rattle.std.proofs.lemmas.List.{get_or-map, length-map, get_or-set_same, length-set}
use Rattle.std.proofs.lemmas.Option.{get_or_from_slice_get}
use Rattle.edge_lists.specs.Types.{Oid, Value, Side, Out, In, ObjectRecord}
use Rattle.edge_lists.specs.Objects.{first_of, with_first, head_of, object_of, AreAscendingObjects, IsLive, IsHeaded}

-- a number other than the object's has its head elsewhere
pub head-past : (side : Side) (o : ObjectRecord) (objects : List ObjectRecord) (oid : Oid) → o.oid.0 ≢ oid.0 → head_of side (o ∷ objects) oid ≡ head_of side objects oid
head-past side o objects oid other =
    let test : nat_eq o.oid.0 oid.0 ≡ false = grind (arith, nat_tests) in
    ap (λ b. cond b (first_of side o) (head_of side objects oid)) test

pub head-here : (side : Side) (o : ObjectRecord) (objects : List ObjectRecord) (oid : Oid) → o.oid.0 ≡ oid.0 → head_of side (o ∷ objects) oid ≡ first_of side o
head-here side o objects oid same =
    let test : nat_eq o.oid.0 oid.0 ≡ true = grind (arith, nat_tests) in
    ap (λ b. cond b (first_of side o) (head_of side objects oid)) test

tail-ascends : (o : ObjectRecord) (objects : List ObjectRecord) → AreAscendingObjects (o ∷ objects) → AreAscendingObjects objects
tail-ascends o objects ascend i j d lt len = ascend (suc i) (suc j) d (omega arith) (omega arith)

-- the object at a place has the head that stands there
pub head-at : (side : Side) (objects : List ObjectRecord) → AreAscendingObjects objects → (p : ℕ) (d : ObjectRecord) → p < length objects
    → head_of side objects (get_or objects p d).oid ≡ first_of side (get_or objects p d)
head-at side [] ascend p d lt = absurd (omega arith)
head-at side (o ∷ objects) ascend zero d lt = head-here side o objects o.oid refl
head-at side (o ∷ objects) ascend (suc p) d lt =
    let below : o.oid.0 < (get_or objects p d).oid.0 = ascend 0 (suc p) d (omega arith) lt in
    head-past side o objects (get_or objects p d).oid (omega arith) ∙ head-at side objects (tail-ascends o objects ascend) p d (omega arith)

-- what isn't live has no head
pub head-none : (side : Side) (objects : List ObjectRecord) (oid : Oid) → (¬ IsLive objects oid) → head_of side objects oid ≡ None
head-none side [] oid none = refl
head-none side (o ∷ objects) oid none = elim (cases_eq o.oid.0 oid.0) [
  | inl same ↦ absurd (none (0, omega arith, ap (λ n. record { 0 = n }) same))
  | inr other ↦ head-past side o objects oid other ∙ head-none side objects oid (λ live. none (suc live.0, omega (arith, live.1), live.2))
]

same-heads : (side : Side) (objects : List ObjectRecord) (p : ℕ) (r d : ObjectRecord) → p < length objects → r.oid ≡ (get_or objects p d).oid
    → (x : Oid) → (x ≡ r.oid → first_of side r ≡ first_of side (get_or objects p d)) → head_of side (set objects p r) x ≡ head_of side objects x
same-heads side [] p r d lt same x first = absurd (omega arith)
same-heads side (o ∷ objects) zero r d lt same x first = elim (cases_eq o.oid.0 x.0) [
  | inl is ↦
      let at : r.oid.0 ≡ x.0 = ap (λ (a : Oid). a.0) same ∙ is in
      head-here side r objects x at ∙ first (ap (λ n. record { 0 = n }) (sym at)) ∙ sym (head-here side o objects x is)
  | inr other ↦
      let apart : r.oid.0 ≢ x.0 = λ at. other (sym (ap (λ (a : Oid). a.0) same) ∙ at) in
      head-past side r objects x apart ∙ sym (head-past side o objects x other)
]
same-heads side (o ∷ objects) (suc p) r d lt same x first =
    ap (λ (h : Option ℕ). cond (nat_eq o.oid.0 x.0) (first_of side o) h) (same-heads side objects p r d (omega arith) same x first)

map-set : {T : Type 0} (f : ObjectRecord → T) (objects : List ObjectRecord) (p : ℕ) (r d : ObjectRecord) → p < length objects → f r ≡ f (get_or objects p d) → map f (set objects p r) ≡ map f objects
map-set f [] p r d lt same = absurd (omega arith)
map-set f (o ∷ objects) zero r d lt same = ap (λ x. x ∷ map f objects) same
map-set f (o ∷ objects) (suc p) r d lt same = ap (λ xs. f o ∷ xs) (map-set f objects p r d (omega arith) same)

-- ascending objects, told by their numbers
pub ascend-oids : (old new : List ObjectRecord) → map object_of new ≡ map object_of old → AreAscendingObjects old → AreAscendingObjects new
ascend-oids old new same ascend i j d lt len =
    let lens : length new ≡ length old = sym (length-map new object_of) ∙ ap length same ∙ length-map old object_of in
    let at_i = number_at lens i (omega arith) in
    let at_j = number_at lens j len in
    omega (arith, at_i, at_j, ascend i j d lt (omega (arith, lens)))
  where
    number_at : length new ≡ length old → (k : ℕ) → k < length new → (get_or new k d).oid.0 ≡ (get_or old k d).oid.0
    number_at lens k lt_k =
        ap (λ (a : Oid × Value). a.0.0) (sym (get_or-map object_of new k d (object_of d) lt_k) ∙ ap (λ xs. get_or xs k (object_of d)) same ∙ get_or-map object_of old k d (object_of d) (omega (arith, lens)))

set_side : (side s : Side) (link : Option ℕ) (o : ObjectRecord) → s ≢ side → first_of s (with_first side link o) ≡ first_of s o
set_side Out Out link o other = absurd (other refl)
set_side In In link o other = absurd (other refl)
set_side Out In link o other = refl
set_side In Out link o other = refl

set_same : (side : Side) (link : Option ℕ) (o : ObjectRecord) → first_of side (with_first side link o) ≡ link
set_same Out link o = refl
set_same In link o = refl

object-kept : (side : Side) (link : Option ℕ) (o : ObjectRecord) → object_of (with_first side link o) ≡ object_of o
object-kept Out link o = refl
object-kept In link o = refl

pub headed : (objects : List ObjectRecord) → AreAscendingObjects objects → (side : Side) (p : ℕ) (d : ObjectRecord) (oid : Oid) (link : Option ℕ)
    → p < length objects → (get_or objects p d).oid ≡ oid
    → IsHeaded objects side oid link (set objects p (with_first side link (get_or objects p d)))
headed objects ascend side p d oid link lt is = record {
  objects = same;
  ascend = ascends;
  head = ap (head_of side (set objects p r)) (sym (ap (λ (o : ObjectRecord). o.oid) here ∙ kept ∙ is)) ∙ head-at side (set objects p r) ascends p d within ∙ ap (first_of side) here ∙ set_same side link (get_or objects p d);
  others = λ x other. same-heads side objects p r d lt kept x (λ at. absurd (other (at ∙ kept ∙ is)));
  other_side = λ s other x. same-heads s objects p r d lt kept x (λ _. set_side side s link (get_or objects p d) other);
}
  where
    r : ObjectRecord
    r = with_first side link (get_or objects p d)

    kept : r.oid ≡ (get_or objects p d).oid
    kept = ap (λ a. a.0) (object-kept side link (get_or objects p d))

    same : map object_of (set objects p r) ≡ map object_of objects
    same = map-set object_of objects p r d lt (object-kept side link (get_or objects p d))

    ascends : AreAscendingObjects (set objects p r)
    ascends = ascend-oids objects (set objects p r) same ascend

    within : p < length (set objects p r)
    within = omega (arith, length-set objects p r)

    here : get_or (set objects p r) p d ≡ r
    here = get_or-set_same objects p r d lt

-- what stands at a place and compares equal is the object
pub found_oid : (objects : List ObjectRecord) (oid : Oid) (place : ℕ) (d : ObjectRecord) → place < length objects → nat_cmp (get_or objects place d).oid.0 oid.0 ≡ Equal → (get_or objects place d).oid ≡ oid
found_oid objects oid place d lt equal =
    let number : (get_or objects place d).oid.0 ≡ oid.0 = ranked _ _ Equal (sym equal) in
    ap (λ n. record { 0 = n }) number

-- all are below what the last is below
pub below-last : (objects : List ObjectRecord) (oid : Oid) (last : ObjectRecord) → AreAscendingObjects objects → slice_get objects (length objects - 1) ≡ Some last
    → OnTrue (ltb last.oid.0 oid.0) (All (λ o. o.oid.0 < oid.0) objects)
below-last objects oid last ascend at = at_test (ltb last.oid.0 oid.0) (ltb-true last.oid.0 oid.0)
  where
    whole : last.oid.0 < oid.0 → All (λ o. o.oid.0 < oid.0) objects
    whole lower k d lt =
        let read : get_or objects (length objects - 1) d ≡ last = get_or_from_slice_get objects (length objects - 1) last d at in
        elim (cases_lt k (length objects - 1)) [
          | inl early ↦ omega (arith, ascend k (length objects - 1) d early (omega arith), ap (λ (o : ObjectRecord). o.oid.0) read, lower)
          | inr late ↦
              let here : k ≡ length objects - 1 = omega arith in
              omega (arith, ap (λ n. (get_or objects n d).oid.0) here, ap (λ (o : ObjectRecord). o.oid.0) read, lower)
        ]

    at_test : (b : Bool) → (b ≡ true → last.oid.0 < oid.0) → OnTrue b (All (λ o. o.oid.0 < oid.0) objects)
    at_test true lower = whole (lower refl)
    at_test false lower = tt

-- what is above all isn't there
pub above_all : (objects : List ObjectRecord) (oid : Oid) → All (λ o. o.oid.0 < oid.0) objects → IsLive objects oid → ⊥
above_all [] oid below live = absurd (omega (arith, live.1))
above_all (o ∷ rest) oid below live =
    let objects = o ∷ rest in
    let k = live.0 in
    let lt : k < length objects = omega (arith, live.1, length-map objects (λ (o : ObjectRecord). o.oid)) in
    let here : (get_or objects k o).oid.0 ≡ oid.0 = ap (λ (a : Oid). a.0) (sym (get_or-map (λ (o : ObjectRecord). o.oid) objects k o oid lt) ∙ live.2) in
    let lower = below k o lt in
    omega (arith, lower, here)

comparison_rises : (a b n : ℕ) → a ≤ b → ordering_index (nat_cmp a n) ≤ ordering_index (nat_cmp b n)
comparison_rises a b n h = grind (arith, nat_tests)

comparisons_rise : (objects : List ObjectRecord) → AreAscendingObjects objects → (n : ℕ) → IsNonDecreasingBy (λ o. ordering_index (nat_cmp o.oid.0 n)) objects
comparisons_rise objects ascend n i j d le lt =
    comparison_rises (get_or objects i d).oid.0 (get_or objects j d).oid.0 n
    (elim (cases_lt i j) [ inl before ↦ omega (arith, ascend i j d before lt) | inr ge ↦ let same : i ≡ j = omega arith in omega (arith, ap (λ k. (get_or objects k d).oid.0) same) ])

-- where a search ends at a gap, the object isn't live
pub none_live : (objects : List ObjectRecord) → AreAscendingObjects objects → (oid : Oid) (place : ℕ) → IsBinarySearchResult (λ o. nat_cmp o.oid.0 oid.0) objects (Err place) → IsLive objects oid → ⊥
none_live [] ascend oid place gap live = absurd (omega (arith, live.1))
none_live (o ∷ rest) ascend oid place gap live = at (o ∷ rest) ascend o gap live
  where
    at : (objects : List ObjectRecord) → AreAscendingObjects objects → (d : ObjectRecord) → IsBinarySearchResult (λ o. nat_cmp o.oid.0 oid.0) objects (Err place) → IsLive objects oid → ⊥
    at objects ascends d misses found =
        let parts = misses (comparisons_rise objects ascends oid.0) in
        let k = found.0 in
        let lt : k < length objects = omega (arith, found.1, length-map objects (λ (o : ObjectRecord). o.oid)) in
        let here : (get_or objects k d).oid.0 ≡ oid.0 = ap (λ (a : Oid). a.0) (sym (get_or-map (λ (o : ObjectRecord). o.oid) objects k d oid lt) ∙ found.2) in
        elim (cases_lt k place) [
          | inl before ↦ let lower : (get_or objects k d).oid.0 < oid.0 = ranked _ _ Less (sym (parts.0 k d (omega arith) before)) in omega (arith, here)
          | inr after ↦ let higher : oid.0 < (get_or objects k d).oid.0 = ranked _ _ Greater (sym (parts.1 k d after lt)) in omega (arith, here)
        ]
