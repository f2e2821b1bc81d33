-- Objects as records, where values are given to them.
use Rattle.std.proofs.Common.{◌≡◌, ℕ, zero, suc, ◌+◌, ◌-◌, ◌<◌, ◌≤◌, Bool, true, not, cond, nat_eq, nat_cmp, Less, Greater, Err, Option, None, List, [], ◌∷◌, ◌++◌, length, get_or, take, drop, set, map, All, Contains, refl, sym, ap, ◌∙◌, inl, inr, subst, arith}
use Rattle.std.specs.List.{insert, filter}
use Rattle.std.specs.List.Sorted.{IsBinarySearchResult, IsNonDecreasingBy}
use Rattle.std.specs.Ordering.{ordering_index}
use Rattle.std.proofs.lemmas.Bool.{cases_eq, cases_lt}
use Rattle.std.proofs.lemmas.Cmp.{ranked}
use Rattle.std.proofs.lemmas.List.{get_or-map, length-map, append_assoc, append-nil, take-append-le, take_all}
use Rattle.std.proofs.lemmas.List.Edits.{length-insert, get_or-insert_below, get_or-insert_at, get_or-insert_above, insert_end}
use Rattle.lore_base.proofs.ListLaws.{AllPairs-tail}
use Rattle.graph_changes.specs.Types.{Side, Out, In, ObjectRecord}
use Rattle.edge_lists.specs.Objects.{object_of, first_of, head_of, AreAscendingObjects, IsLive}
use Rattle.edge_lists.proofs.ObjectLaws.{head-past, head-here, head-none}
use Rattle.graph_changes.specs.Types.{Oid, Value}
use Rattle.graph_changes.specs.Puts.{with_object}
use Rattle.graph_changes.specs.Given.{ArePutIn}
use Rattle.graph_changes.specs.inside.Gaps.{IsGap}
use Rattle.graph_changes.specs.Left.{is_among}
use Rattle.graph_changes.proofs.GivenLaws.{with-past, with-here, with-front, with-more}
use Rattle.graph_changes.proofs.ObjectLaws.{comparison_rises}

-- an object that has no edges
abbrev pub alone : Oid → Value → ObjectRecord
alone oid value = record { oid = oid; value = value; first_out = None; first_in = None }

alone-first : (side : Side) (oid : Oid) (value : Value) → first_of side (alone oid value) ≡ None
alone-first Out oid value = refl
alone-first In oid value = refl

objects-tail : (first : ObjectRecord) (objects : List ObjectRecord) → AreAscendingObjects (first ∷ objects) → AreAscendingObjects objects
objects-tail first objects ascend = AllPairs-tail (λ (a b : ObjectRecord). a.oid.0 < b.oid.0) first objects ascend

-- ---- an object is put at a gap
gap-tail : (first : ObjectRecord) (objects : List ObjectRecord) (oid : Oid) (place : ℕ) → IsGap (first ∷ objects) oid (suc place) → IsGap objects oid place
gap-tail first objects oid place gap = record {
  within = omega (arith, gap.within);
  below = λ k d lt. gap.below (suc k) d (omega arith);
  above = λ k d le lt. gap.above (suc k) d (omega arith) (omega arith);
}

gap-none : (objects : List ObjectRecord) (oid : Oid) (place : ℕ) → IsGap objects oid place → IsLive objects oid → ⊥
gap-none [] oid place gap live = omega (arith, live.1)
gap-none (first ∷ objects) oid place gap live =
    let k = live.0 in
    let lt : k < length (first ∷ objects) = omega (arith, live.1, length-map (first ∷ objects) (λ (o : ObjectRecord). o.oid)) in
    let here : (get_or (first ∷ objects) k first).oid.0 ≡ oid.0 = ap (λ (a : Oid). a.0) (sym (get_or-map (λ (o : ObjectRecord). o.oid) (first ∷ objects) k first oid lt) ∙ live.2) in
    elim (cases_lt k place) [
      | inl before ↦ omega (arith, here, gap.below k first before)
      | inr after ↦ omega (arith, here, gap.above k first after lt)
    ]

inserted-pairs : (objects : List ObjectRecord) (oid : Oid) (value : Value) (place : ℕ) → IsGap objects oid place
    → map object_of (insert objects place (alone oid value)) ≡ with_object (map object_of objects) (oid, value)
inserted-pairs [] oid value zero gap = refl
inserted-pairs (first ∷ objects) oid value zero gap = sym (with-front (object_of first) (oid, value) (map object_of objects) (gap.above 0 first (omega arith) (omega arith)))
inserted-pairs [] oid value (suc place) gap = absurd (omega (arith, gap.within))
inserted-pairs (first ∷ objects) oid value (suc place) gap =
    ap (λ (l : List (Oid × Value)). object_of first ∷ l) (inserted-pairs objects oid value place (gap-tail first objects oid place gap))
    ∙ sym (with-past (object_of first) (oid, value) (map object_of objects) (gap.below 0 first (omega arith)))

inserted-heads : (objects : List ObjectRecord) (oid : Oid) (value : Value) (place : ℕ) → IsGap objects oid place → (side : Side) (x : Oid)
    → head_of side (insert objects place (alone oid value)) x ≡ head_of side objects x
inserted-heads objects oid value zero gap side x = elim (cases_eq oid.0 x.0) [
  | inl same ↦
      head-here side (alone oid value) objects x same ∙ alone-first side oid value
      ∙ sym (head-none side objects x (λ live. gap-none objects oid zero gap (subst (λ (o : Oid). IsLive objects o) (ap (λ n. record { 0 = n }) (sym same)) live)))
  | inr other ↦ head-past side (alone oid value) objects x other
]
inserted-heads [] oid value (suc place) gap side x = absurd (omega (arith, gap.within))
inserted-heads (first ∷ objects) oid value (suc place) gap side x =
    ap (λ (h : Option ℕ). cond (nat_eq first.oid.0 x.0) (first_of side first) h) (inserted-heads objects oid value place (gap-tail first objects oid place gap) side x)

inserted-ascend : (objects : List ObjectRecord) (oid : Oid) (value : Value) (place : ℕ) → AreAscendingObjects objects → IsGap objects oid place → AreAscendingObjects (insert objects place (alone oid value))
inserted-ascend objects oid value place ascend gap i j d lt len =
    let new = alone oid value in
    let total = length-insert objects place new gap.within in
    elim (cases_lt j place) [
      | inl j_below ↦
          let at_j = get_or-insert_below objects place new d j j_below gap.within in
          let at_i = get_or-insert_below objects place new d i (omega arith) gap.within in
          rw (at_i, at_j) (ascend i j d lt (omega (arith, j_below, gap.within)))
      | inr j_not ↦ elim (cases_lt place j) [
        | inl j_above ↦
            let m = j - 1 in
            let is : j ≡ m + 1 = omega arith in
            let at_j : get_or (insert objects place new) j d ≡ get_or objects m d =
            ap (λ n. get_or (insert objects place new) n d) is ∙ get_or-insert_above objects place new d m (omega arith) gap.within in
            elim (cases_lt i place) [
              | inl i_below ↦
                  let at_i = get_or-insert_below objects place new d i i_below gap.within in
                  rw (at_i, at_j) (ascend i m d (omega arith) (omega (arith, total)))
              | inr i_not ↦ elim (cases_lt place i) [
                | inl i_above ↦
                    let k = i - 1 in
                    let is_i : i ≡ k + 1 = omega arith in
                    let at_i : get_or (insert objects place new) i d ≡ get_or objects k d =
                    ap (λ n. get_or (insert objects place new) n d) is_i ∙ get_or-insert_above objects place new d k (omega arith) gap.within in
                    rw (at_i, at_j) (ascend k m d (omega arith) (omega (arith, total)))
                | inr i_here ↦
                    let is_i : i ≡ place = omega arith in
                    let at_i : get_or (insert objects place new) i d ≡ new =
                    ap (λ n. get_or (insert objects place new) n d) is_i ∙ get_or-insert_at objects place new d gap.within in
                    rw (at_i, at_j) (gap.above m d (omega arith) (omega (arith, total)))
              ]
            ]
        | inr j_here ↦
            let is : j ≡ place = omega arith in
            let at_j : get_or (insert objects place new) j d ≡ new =
            ap (λ n. get_or (insert objects place new) n d) is ∙ get_or-insert_at objects place new d gap.within in
            let at_i = get_or-insert_below objects place new d i (omega arith) gap.within in
            rw (at_i, at_j) (gap.below i d (omega arith))
      ]
    ]

pub live-at : (objects : List ObjectRecord) (x : Oid) (k : ℕ) (d : ObjectRecord) → k < length objects → (get_or objects k d).oid ≡ x → IsLive objects x
live-at objects x k d lt is = (k, omega (arith, lt, length-map objects (λ (o : ObjectRecord). o.oid)), get_or-map (λ (o : ObjectRecord). o.oid) objects k d x lt ∙ is)

-- an object that is given where it isn't there
pub put-new : (objects : List ObjectRecord) (oid : Oid) (value : Value) (place : ℕ) → AreAscendingObjects objects → IsGap objects oid place
    → ArePutIn ((oid, value) ∷ []) objects (insert objects place (alone oid value))
put-new objects oid value place ascend gap = record {
  ascend = inserted-ascend objects oid value place ascend gap;
  objects = inserted-pairs objects oid value place gap;
  kept = λ x live.
      let d = alone x value in
      let lt : live.0 < length objects = omega (arith, live.1, length-map objects (λ (o : ObjectRecord). o.oid)) in
      let was : (get_or objects live.0 d).oid ≡ x = sym (get_or-map (λ (o : ObjectRecord). o.oid) objects live.0 d x lt) ∙ live.2 in
      let total = length-insert objects place (alone oid value) gap.within in
      elim (cases_lt live.0 place) [
        | inl below ↦ live-at (insert objects place (alone oid value)) x live.0 d (omega (arith, lt, total)) (ap (λ (o : ObjectRecord). o.oid) (get_or-insert_below objects place (alone oid value) d live.0 below gap.within) ∙ was)
        | inr above ↦ live-at (insert objects place (alone oid value)) x (live.0 + 1) d (omega (arith, lt, total)) (ap (λ (o : ObjectRecord). o.oid) (get_or-insert_above objects place (alone oid value) d live.0 above gap.within) ∙ was)
      ];
  heads = inserted-heads objects oid value place gap;
}

pub put-inserted : (objects new : List ObjectRecord) (oid : Oid) (value : Value) (place : ℕ) (done : Bool) → AreAscendingObjects objects → IsGap objects oid place
    → new ≡ cond done (insert objects place (alone oid value)) objects → done ≡ true → ArePutIn ((oid, value) ∷ []) objects new
put-inserted objects new oid value place done ascend gap is holds =
    subst (λ (l : List ObjectRecord). ArePutIn ((oid, value) ∷ []) objects l) (sym (is ∙ ap (λ (b : Bool). cond b (insert objects place (alone oid value)) objects) holds)) (put-new objects oid value place ascend gap)

-- and so behind all others
pub put-behind : (objects new : List ObjectRecord) (oid : Oid) (value : Value) → AreAscendingObjects objects → All (λ (object : ObjectRecord). object.oid.0 < oid.0) objects
    → new ≡ objects ++ alone oid value ∷ [] → ArePutIn ((oid, value) ∷ []) objects new
put-behind objects new oid value ascend below is =
    subst (λ (l : List ObjectRecord). ArePutIn ((oid, value) ∷ []) objects l) (insert_end objects (alone oid value) ∙ sym is)
    (put-new objects oid value (length objects) ascend (record {
      within = omega arith;
      below = λ k d lt. below k d lt;
      above = λ k d from lt. absurd (omega (arith, from, lt));
    }))

-- ---- an object that is there is given a value

valued-first : (side : Side) (o : ObjectRecord) (value : Value) → first_of side (record o { value = value }) ≡ first_of side o
valued-first Out o value = refl
valued-first In o value = refl

set-pairs : (objects : List ObjectRecord) (oid : Oid) (value : Value) (p : ℕ) (d : ObjectRecord) → AreAscendingObjects objects → p < length objects → (get_or objects p d).oid ≡ oid
    → map object_of (set objects p (record (get_or objects p d) { value = value })) ≡ with_object (map object_of objects) (oid, value)
set-pairs [] oid value p d ascend lt is = absurd (omega arith)
set-pairs (first ∷ objects) oid value zero d ascend lt is =
    ap (λ (o : Oid). (o, value) ∷ map object_of objects) is ∙ sym (with-here (object_of first) (oid, value) (map object_of objects) (ap (λ (o : Oid). o.0) is))
set-pairs (first ∷ objects) oid value (suc p) d ascend lt is =
    let below : first.oid.0 < (get_or objects p d).oid.0 = ascend 0 (suc p) d (omega arith) lt in
    ap (λ (l : List (Oid × Value)). object_of first ∷ l) (set-pairs objects oid value p d (objects-tail first objects ascend) (omega arith) is)
    ∙ sym (with-past (object_of first) (oid, value) (map object_of objects) (omega (arith, below, ap (λ (o : Oid). o.0) is)))

set-heads : (objects : List ObjectRecord) (value : Value) (p : ℕ) (d : ObjectRecord) → p < length objects → (side : Side) (x : Oid)
    → head_of side (set objects p (record (get_or objects p d) { value = value })) x ≡ head_of side objects x
set-heads [] value p d lt side x = absurd (omega arith)
set-heads (first ∷ objects) value zero d lt side x = ap (λ (h : Option ℕ). cond (nat_eq first.oid.0 x.0) h (head_of side objects x)) (valued-first side first value)
set-heads (first ∷ objects) value (suc p) d lt side x =
    ap (λ (h : Option ℕ). cond (nat_eq first.oid.0 x.0) (first_of side first) h) (set-heads objects value p d (omega arith) side x)

set-oids : (objects : List ObjectRecord) (value : Value) (p : ℕ) (d : ObjectRecord) → p < length objects
    → map (λ (o : ObjectRecord). o.oid) (set objects p (record (get_or objects p d) { value = value })) ≡ map (λ (o : ObjectRecord). o.oid) objects
set-oids [] value p d lt = absurd (omega arith)
set-oids (first ∷ objects) value zero d lt = refl
set-oids (first ∷ objects) value (suc p) d lt = ap (λ (l : List Oid). first.oid ∷ l) (set-oids objects value p d (omega arith))

ascend-oids : (old new : List ObjectRecord) → map (λ (o : ObjectRecord). o.oid) new ≡ map (λ (o : ObjectRecord). o.oid) old → AreAscendingObjects old → AreAscendingObjects new
ascend-oids old new same ascend i j d lt len =
    let lens : length new ≡ length old = sym (length-map new (λ (o : ObjectRecord). o.oid)) ∙ ap length same ∙ length-map old (λ (o : ObjectRecord). o.oid) in
    let at_i = number_at lens i (omega arith) in
    let at_j = number_at lens j len in
    omega (arith, at_i, at_j, ascend i j d lt (omega (arith, lens)))
  where
    number_at : length new ≡ length old → (k : ℕ) → k < length new → (get_or new k d).oid.0 ≡ (get_or old k d).oid.0
    number_at lens k lt_k =
        ap (λ (a : Oid). a.0) (sym (get_or-map (λ (o : ObjectRecord). o.oid) new k d d.oid lt_k) ∙ ap (λ xs. get_or xs k d.oid) same ∙ get_or-map (λ (o : ObjectRecord). o.oid) old k d d.oid (omega (arith, lens)))

pub put-old : (objects : List ObjectRecord) (oid : Oid) (value : Value) (p : ℕ) (d : ObjectRecord) → AreAscendingObjects objects → p < length objects → (get_or objects p d).oid ≡ oid
    → ArePutIn ((oid, value) ∷ []) objects (set objects p (record (get_or objects p d) { value = value }))
put-old objects oid value p d ascend lt is = record {
  ascend = ascend-oids objects (set objects p (record (get_or objects p d) { value = value })) (set-oids objects value p d lt) ascend;
  objects = set-pairs objects oid value p d ascend lt is;
  kept = λ x live. subst (λ (l : List Oid). Contains l x) (sym (set-oids objects value p d lt)) live;
  heads = set-heads objects value p d lt;
}

-- ---- one after another
pub put-none : (objects : List ObjectRecord) → AreAscendingObjects objects → ArePutIn [] objects objects
put-none objects ascend = record { ascend = ascend; objects = refl; kept = λ x live. live; heads = λ side x. refl }

pub put-more : (given : List (Oid × Value)) (last : Oid × Value) (o0 o1 o2 : List ObjectRecord) → ArePutIn given o0 o1 → ArePutIn (last ∷ []) o1 o2 → ArePutIn (given ++ last ∷ []) o0 o2
put-more given last o0 o1 o2 all one = record {
  ascend = one.ascend;
  objects = one.objects ∙ ap (λ (l : List (Oid × Value)). with_object l last) all.objects ∙ sym (with-more (map object_of o0) given last);
  kept = λ x live. one.kept x (all.kept x live);
  heads = λ side x. one.heads side x ∙ all.heads side x;
}

-- ---- searches
-- along ascending objects the comparisons with a number rise
records_rise : (objects : List ObjectRecord) → AreAscendingObjects objects → (n : ℕ) → IsNonDecreasingBy (λ o. ordering_index (nat_cmp o.oid.0 n)) objects
records_rise objects ascend n i j d le lt =
    comparison_rises (get_or objects i d).oid.0 (get_or objects j d).oid.0 n
    (elim (cases_lt i j) [ inl before ↦ omega (arith, ascend i j d before lt) | inr ge ↦ let same : i ≡ j = omega arith in omega (arith, ap (λ k. (get_or objects k d).oid.0) same) ])

-- where a search ends at a gap the object would stand there
pub gap-at : (objects : List ObjectRecord) → AreAscendingObjects objects → (oid : Oid) (place : ℕ) → place ≤ length objects → IsBinarySearchResult (λ o. nat_cmp o.oid.0 oid.0) objects (Err place)
    → IsGap objects oid place
gap-at objects ascend oid place within misses =
    let parts = misses (records_rise objects ascend oid.0) in
    record {
      within = within;
      below = λ k d lt. ranked _ _ Less (sym (parts.0 k d (omega (arith, lt, within)) lt));
      above = λ k d le lt. ranked _ _ Greater (sym (parts.1 k d le lt));
    }

-- where nothing is dead all stay
pub all-stay : (dead : List Oid) (objects : List ObjectRecord) → dead ≡ [] → objects ≡ filter (λ object. not (is_among dead object.oid)) objects
all-stay dead objects none = subst (λ (d : List Oid). objects ≡ filter (λ (o : ObjectRecord). not (is_among d o.oid)) objects) (sym none) (same objects)
  where
    same : (xs : List ObjectRecord) → xs ≡ filter (λ (o : ObjectRecord). not (is_among [] o.oid)) xs
    same [] = refl
    same (first ∷ xs) = ap (λ (l : List ObjectRecord). first ∷ l) (same xs)

-- some of the given objects are put in, and the rest is still to come
pub record IsPutSoFar (given rest : List (Oid × Value)) (old new : List ObjectRecord) : Type 0 where
  pub front : List (Oid × Value)
  pub whole : given ≡ front ++ rest
  pub put : ArePutIn front old new

pub put-first : (given : List (Oid × Value)) (objects : List ObjectRecord) → AreAscendingObjects objects → IsPutSoFar given given objects objects
put-first given objects ascend = record { front = []; whole = refl; put = put-none objects ascend }

pub put-next : (given rest others : List (Oid × Value)) (object : Oid × Value) (o0 o1 o2 : List ObjectRecord) → IsPutSoFar given rest o0 o1 → rest ≡ object ∷ others → ArePutIn (object ∷ []) o1 o2
    → IsPutSoFar given others o0 o2
put-next given rest others object o0 o1 o2 so is one = record {
  front = so.front ++ object ∷ [];
  whole = so.whole ∙ ap (λ (l : List (Oid × Value)). so.front ++ l) is ∙ sym (append_assoc so.front (object ∷ []) others);
  put = put-more so.front object o0 o1 o2 so.put one;
}

pub put-last : (given rest : List (Oid × Value)) (o0 o1 : List ObjectRecord) → IsPutSoFar given rest o0 o1 → rest ≡ [] → ArePutIn given o0 o1
put-last given rest o0 o1 so is =
    subst (λ (l : List (Oid × Value)). ArePutIn l o0 o1) (sym (so.whole ∙ ap (λ (l : List (Oid × Value)). so.front ++ l) is ∙ append-nil so.front)) so.put

-- a list that was written through whole
pub with_all : {X : Type 0} (new old : List X) (n : ℕ) → n ≡ length new → take n (new ++ drop (length new) old) ≡ new
with_all new old n is = take-append-le n new (drop (length new) old) (omega (arith, is)) ∙ take_all n new (omega (arith, is))
