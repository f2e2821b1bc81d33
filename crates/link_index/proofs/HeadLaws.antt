-- The first records of children, where one of them is set, and where children are listed or taken out of the list.
use Rattle.std.proofs.Common.{◌≡◌, ◌≢◌, ℕ, zero, suc, ◌+◌, ◌-◌, ◌<◌, ◌≤◌, Bool, true, false, Option, Some, None, is_some, cond, nat_eq, ltb, nat_cmp, Less, Equal, Greater, Err, List, [], ◌∷◌, ◌++◌, length, get_or, set, map, All, refl, sym, ap, ◌∙◌, inl, inr, subst, arith, length-append}
use Rattle.std.specs.List.{slice_get}
use Rattle.std.specs.Bool.{OnTrue}
use Rattle.std.specs.Option.{IfSome}
use Rattle.std.proofs.lemmas.Option.{get_or_from_slice_get}
use Rattle.std.specs.List.{insert}
use Rattle.std.proofs.lemmas.List.Edits.{insert_end, length-insert, get_or-insert_below, get_or-insert_at, get_or-insert_above}
use Rattle.std.specs.List.Sorted.{IsBinarySearchResult, IsNonDecreasingBy}
use Rattle.std.specs.Ordering.{ordering_index}
use Rattle.std.proofs.lemmas.Bool.{cases_eq, cases_lt, true≢false, ltb-true}
use Rattle.std.proofs.lemmas.Bool.Decides.{nat_tests}
use Rattle.std.proofs.lemmas.Cmp.{ranked}
use Rattle.std.proofs.Math.Seq.{set-append_seam}
use Rattle.std.proofs.lemmas.List.{get_or-map, length-map, get_or-set_same, length-set, get_or-append_right}
use Rattle.lore_base.proofs.ListLaws.{AllPairs-tail}
use Rattle.near_links.specs.Links.{IsNearest}
use Rattle.near_links.proofs.NearLaws.{found}
use Rattle.near_links.proofs.AheadLaws.{none_some}
use Rattle.link_index.specs.Types.{Oid}
use Rattle.link_index.specs.declared.heads.Head.{Head}
use Rattle.link_index.specs.declared.link.Link.{Link}
use Rattle.link_index.specs.declared.records.LinkRecord.{LinkRecord}
use Rattle.link_index.specs.inside.Records.{head_of, AreAscendingHeads, IsListed, IsHeaded, LiesAt, HasLink, child_of, Precedes, AreChained}
use Rattle.link_index.specs.inside.Heads.{SameHeads, IsGap, IsWithChild}

-- a child other than the first has its record elsewhere
pub head-past : (head : Head) (heads : List Head) (child : Oid) → head.child.0 ≢ child.0 → head_of (head ∷ heads) child ≡ head_of heads child
head-past head heads child other =
    let test : nat_eq head.child.0 child.0 ≡ false = grind (arith, nat_tests) in
    ap (λ b. cond b head.first (head_of heads child)) test

pub head-here : (head : Head) (heads : List Head) (child : Oid) → head.child.0 ≡ child.0 → head_of (head ∷ heads) child ≡ head.first
head-here head heads child same =
    let test : nat_eq head.child.0 child.0 ≡ true = grind (arith, nat_tests) in
    ap (λ b. cond b head.first (head_of heads child)) test

-- the child at a place has the record that stands there
pub head-at : (heads : List Head) → AreAscendingHeads heads → (p : ℕ) (d : Head) → p < length heads
    → head_of heads (get_or heads p d).child ≡ (get_or heads p d).first
head-at [] ascend p d lt = absurd (omega arith)
head-at (head ∷ heads) ascend zero d lt = head-here head heads head.child refl
head-at (head ∷ heads) ascend (suc p) d lt =
    let below : head.child.0 < (get_or heads p d).child.0 = ascend 0 (suc p) d (omega arith) lt in
    head-past head heads (get_or heads p d).child (omega arith) ∙ head-at heads (AllPairs-tail (λ (a b : Head). a.child.0 < b.child.0) head heads ascend) p d (omega arith)

-- what isn't listed has no record
pub head-none : (heads : List Head) (child : Oid) → (¬ IsListed heads child) → head_of heads child ≡ None
head-none [] child none = refl
head-none (head ∷ heads) child none = elim (cases_eq head.child.0 child.0) [
  | inl same ↦ absurd (none (0, omega arith, ap (λ n. record { 0 = n }) same))
  | inr other ↦ head-past head heads child other ∙ head-none heads child (λ listed. none (suc listed.0, omega (arith, listed.1), listed.2))
]

same-heads : (heads : List Head) (p : ℕ) (new d : Head) → p < length heads → new.child ≡ (get_or heads p d).child
    → (x : Oid) → (x ≡ new.child → new.first ≡ (get_or heads p d).first) → head_of (set heads p new) x ≡ head_of heads x
same-heads [] p new d lt same x first = absurd (omega arith)
same-heads (head ∷ heads) zero new d lt same x first = elim (cases_eq head.child.0 x.0) [
  | inl is ↦
      let at : new.child.0 ≡ x.0 = ap (λ (a : Oid). a.0) same ∙ is in
      head-here new heads x at ∙ first (ap (λ n. record { 0 = n }) (sym at)) ∙ sym (head-here head heads x is)
  | inr other ↦
      let apart : new.child.0 ≢ x.0 = λ at. other (sym (ap (λ (a : Oid). a.0) same) ∙ at) in
      head-past new heads x apart ∙ sym (head-past head heads x other)
]
same-heads (head ∷ heads) (suc p) new d lt same x first =
    ap (λ (h : Option ℕ). cond (nat_eq head.child.0 x.0) head.first h) (same-heads heads p new d (omega arith) same x first)

map-set : {T : Type 0} (f : Head → T) (heads : List Head) (p : ℕ) (new d : Head) → p < length heads → f new ≡ f (get_or heads p d) → map f (set heads p new) ≡ map f heads
map-set f [] p new d lt same = absurd (omega arith)
map-set f (head ∷ heads) zero new d lt same = ap (λ x. x ∷ map f heads) same
map-set f (head ∷ heads) (suc p) new d lt same = ap (λ xs. f head ∷ xs) (map-set f heads p new d (omega arith) same)

-- heads of the same children ascend alike
ascend-children : (old new : List Head) → map (λ (h : Head). h.child) new ≡ map (λ (h : Head). h.child) old → AreAscendingHeads old → AreAscendingHeads new
ascend-children old new same ascend i j d lt len =
    let lens : length new ≡ length old = sym (length-map new (λ (h : Head). h.child)) ∙ ap length same ∙ length-map old (λ (h : Head). h.child) in
    let at_i = number_at lens i (omega arith) in
    let at_j = number_at lens j len in
    omega (arith, at_i, at_j, ascend i j d lt (omega (arith, lens)))
  where
    number_at : length new ≡ length old → (k : ℕ) → k < length new → (get_or new k d).child.0 ≡ (get_or old k d).child.0
    number_at lens k lt_k =
        ap (λ (a : Oid). a.0) (sym (get_or-map (λ (h : Head). h.child) new k d d.child lt_k) ∙ ap (λ xs. get_or xs k d.child) same ∙ get_or-map (λ (h : Head). h.child) old k d d.child (omega (arith, lens)))

pub headed : (heads : List Head) → AreAscendingHeads heads → (p : ℕ) (d : Head) (child : Oid) (first : Option ℕ) → p < length heads → (get_or heads p d).child ≡ child
    → IsHeaded heads child first (set heads p (record (get_or heads p d) { first = first }))
headed heads ascend p d child first lt is = record {
  children = same;
  ascend = ascends;
  head = ap (head_of (set heads p new)) (sym (ap (λ (h : Head). h.child) here ∙ is)) ∙ head-at (set heads p new) ascends p d within ∙ ap (λ (h : Head). h.first) here;
  others = λ x other. same-heads heads p new d lt refl x (λ at. absurd (other (at ∙ is)));
}
  where
    new : Head
    new = record (get_or heads p d) { first = first }

    same : map (λ (h : Head). h.child) (set heads p new) ≡ map (λ (h : Head). h.child) heads
    same = map-set (λ (h : Head). h.child) heads p new d lt refl

    ascends : AreAscendingHeads (set heads p new)
    ascends = ascend-children heads (set heads p new) same ascend

    within : p < length (set heads p new)
    within = omega (arith, lt, length-set heads p new)

    here : get_or (set heads p new) p d ≡ new
    here = get_or-set_same heads p new d lt

-- ---- searches
pub found_child : (heads : List Head) (child : Oid) (place : ℕ) (d : Head) → place < length heads → nat_cmp (get_or heads place d).child.0 child.0 ≡ Equal → (get_or heads place d).child ≡ child
found_child heads child place d lt equal =
    let number : (get_or heads place d).child.0 ≡ child.0 = ranked _ _ Equal (sym equal) in
    ap (λ n. record { 0 = n }) number

comparison_rises : (a b n : ℕ) → a ≤ b → ordering_index (nat_cmp a n) ≤ ordering_index (nat_cmp b n)
comparison_rises a b n h = grind (arith, nat_tests)

pub comparisons_rise : (heads : List Head) → AreAscendingHeads heads → (n : ℕ) → IsNonDecreasingBy (λ h. ordering_index (nat_cmp h.child.0 n)) heads
comparisons_rise heads ascend n i j d le lt =
    comparison_rises (get_or heads i d).child.0 (get_or heads j d).child.0 n
    (elim (cases_lt i j) [ inl before ↦ omega (arith, ascend i j d before lt) | inr ge ↦ let same : i ≡ j = omega arith in omega (arith, ap (λ k. (get_or heads k d).child.0) same) ])

-- where a search ends is a gap
pub gap_at : (heads : List Head) → AreAscendingHeads heads → (child : Oid) (place : ℕ) → place ≤ length heads → IsBinarySearchResult (λ h. nat_cmp h.child.0 child.0) heads (Err place)
    → IsGap heads child place
gap_at heads ascend child place within misses =
    let parts = misses (comparisons_rise heads ascend child.0) in
    record {
      within = within;
      below = λ k d lt. ranked _ _ Less (sym (parts.0 k d (omega (arith, lt, within)) lt));
      above = λ k d le lt. ranked _ _ Greater (sym (parts.1 k d le lt));
    }

-- in a gap the child isn't listed
pub gap_none : (heads : List Head) (child : Oid) (place : ℕ) → IsGap heads child place → IsListed heads child → ⊥
gap_none [] child place gap listed = omega (arith, listed.1)
gap_none (head ∷ heads) child place gap listed =
    let k = listed.0 in
    let lt : k < length (head ∷ heads) = omega (arith, listed.1, length-map (head ∷ heads) (λ (h : Head). h.child)) in
    let here : (get_or (head ∷ heads) k head).child.0 ≡ child.0 = ap (λ (a : Oid). a.0) (sym (get_or-map (λ (h : Head). h.child) (head ∷ heads) k head child lt) ∙ listed.2) in
    elim (cases_lt k place) [
      | inl before ↦ omega (arith, here, gap.below k head before)
      | inr after ↦ omega (arith, here, gap.above k head after lt)
    ]

-- behind all that are below is a gap
pub gap_behind : (heads : List Head) (child : Oid) → All (λ h. h.child.0 < child.0) heads → IsGap heads child (length heads)
gap_behind heads child below = record {
  within = omega arith;
  below = λ k d lt. below k d lt;
  above = λ k d le lt. absurd (omega arith);
}

-- ---- a child is listed at a gap
abbrev pub alone : Oid → Head
alone child = record { child = child; first = None }

gap-tail : (head : Head) (heads : List Head) (child : Oid) (place : ℕ) → IsGap (head ∷ heads) child (suc place) → IsGap heads child place
gap-tail head heads child place gap = record {
  within = omega (arith, gap.within);
  below = λ k d lt. gap.below (suc k) d (omega arith);
  above = λ k d le lt. gap.above (suc k) d (omega arith) (omega arith);
}

inserted-same : (heads : List Head) (child : Oid) (place : ℕ) → IsGap heads child place → (x : Oid) → head_of (insert heads place (alone child)) x ≡ head_of heads x
inserted-same heads child zero gap x = elim (cases_eq child.0 x.0) [
  | inl same ↦
      head-here (alone child) heads x same
      ∙ sym (head-none heads x (λ listed. gap_none heads child zero gap (subst (λ (o : Oid). IsListed heads o) (ap (λ n. record { 0 = n }) (sym same)) listed)))
  | inr other ↦ head-past (alone child) heads x other
]
inserted-same [] child (suc place) gap x = absurd (omega (arith, gap.within))
inserted-same (head ∷ heads) child (suc place) gap x =
    ap (λ (h : Option ℕ). cond (nat_eq head.child.0 x.0) head.first h) (inserted-same heads child place (gap-tail head heads child place gap) x)

inserted-ascend : (heads : List Head) (child : Oid) (place : ℕ) → AreAscendingHeads heads → IsGap heads child place → AreAscendingHeads (insert heads place (alone child))
inserted-ascend heads child place ascend gap i j d lt len =
    let total = length-insert heads place (alone child) gap.within in
    elim (cases_lt j place) [
      | inl j_below ↦
          let at_j = get_or-insert_below heads place (alone child) d j j_below gap.within in
          let at_i = get_or-insert_below heads place (alone child) d i (omega arith) gap.within in
          rw (at_i, at_j) (ascend i j d lt (omega (arith, j_below, gap.within)))
      | inr j_not ↦ elim (cases_lt place j) [
        | inl j_above ↦
            let m = j - 1 in
            let is : j ≡ m + 1 = omega arith in
            let at_j : get_or (insert heads place (alone child)) j d ≡ get_or heads m d =
            ap (λ n. get_or (insert heads place (alone child)) n d) is ∙ get_or-insert_above heads place (alone child) d m (omega arith) gap.within in
            elim (cases_lt i place) [
              | inl i_below ↦
                  let at_i = get_or-insert_below heads place (alone child) d i i_below gap.within in
                  rw (at_i, at_j) (ascend i m d (omega arith) (omega (arith, total)))
              | inr i_not ↦ elim (cases_lt place i) [
                | inl i_above ↦
                    let k = i - 1 in
                    let is_i : i ≡ k + 1 = omega arith in
                    let at_i : get_or (insert heads place (alone child)) i d ≡ get_or heads k d =
                    ap (λ n. get_or (insert heads place (alone child)) n d) is_i ∙ get_or-insert_above heads place (alone child) d k (omega arith) gap.within in
                    rw (at_i, at_j) (ascend k m d (omega arith) (omega (arith, total)))
                | inr i_here ↦
                    let is_i : i ≡ place = omega arith in
                    let at_i : get_or (insert heads place (alone child)) i d ≡ alone child =
                    ap (λ n. get_or (insert heads place (alone child)) n d) is_i ∙ get_or-insert_at heads place (alone child) d gap.within in
                    rw (at_i, at_j) (gap.above m d (omega arith) (omega (arith, total)))
              ]
            ]
        | inr j_here ↦
            let is : j ≡ place = omega arith in
            let at_j : get_or (insert heads place (alone child)) j d ≡ alone child =
            ap (λ n. get_or (insert heads place (alone child)) n d) is ∙ get_or-insert_at heads place (alone child) d gap.within in
            let at_i = get_or-insert_below heads place (alone child) d i (omega arith) gap.within in
            rw (at_i, at_j) (gap.below i d (omega arith))
      ]
    ]

pub with_child : (heads : List Head) (child : Oid) (place : ℕ) → AreAscendingHeads heads → IsGap heads child place → IsWithChild heads child (insert heads place (alone child))
with_child heads child place ascend gap = record {
  ascend = inserted-ascend heads child place ascend gap;
  listed = (
    place,
    omega (arith, total, gap.within, length-map new (λ (h : Head). h.child)),
    get_or-map (λ (h : Head). h.child) new place (alone child) child (omega (arith, total, gap.within)) ∙ ap (λ (h : Head). h.child) (get_or-insert_at heads place (alone child) (alone child) gap.within),
  );
  kept = λ x listed.
      let lt : listed.0 < length heads = omega (arith, listed.1, length-map heads (λ (h : Head). h.child)) in
      let was : (get_or heads listed.0 (alone x)).child ≡ x = sym (get_or-map (λ (h : Head). h.child) heads listed.0 (alone x) x lt) ∙ listed.2 in
      elim (cases_lt listed.0 place) [
        | inl below ↦ listed_at x listed.0 (omega (arith, lt, total)) (ap (λ (h : Head). h.child) (get_or-insert_below heads place (alone child) (alone x) listed.0 below gap.within) ∙ was)
        | inr above ↦ listed_at x (listed.0 + 1) (omega (arith, lt, total)) (ap (λ (h : Head). h.child) (get_or-insert_above heads place (alone child) (alone x) listed.0 above gap.within) ∙ was)
      ];
  same = inserted-same heads child place gap;
}
  where
    new : List Head
    new = insert heads place (alone child)

    total : length new ≡ length heads + 1
    total = length-insert heads place (alone child) gap.within

    listed_at : (x : Oid) (k : ℕ) → k < length new → (get_or new k (alone x)).child ≡ x → IsListed new x
    listed_at x k lt is = (k, omega (arith, lt, length-map new (λ (h : Head). h.child)), get_or-map (λ (h : Head). h.child) new k (alone x) x lt ∙ is)

-- a child that is above the others is listed behind them
pub pushed_child : (heads new : List Head) (child : Oid) → AreAscendingHeads heads → All (λ h. h.child.0 < child.0) heads → new ≡ heads ++ alone child ∷ [] → IsWithChild heads child new
pushed_child heads new child ascend below is =
    subst (λ (l : List Head). IsWithChild heads child l) (insert_end heads (alone child) ∙ sym is) (with_child heads child (length heads) ascend (gap_behind heads child below))

-- its head is set there
pub headed_last : (heads : List Head) (child : Oid) (first : Option ℕ) → AreAscendingHeads (heads ++ alone child ∷ [])
    → IsHeaded (heads ++ alone child ∷ []) child first (heads ++ record { child = child; first = first } ∷ [])
headed_last heads child first ascend =
    subst (λ (l : List Head). IsHeaded (heads ++ alone child ∷ []) child first l) is
    (headed (heads ++ alone child ∷ []) ascend (length heads) (alone child) child first within (ap (λ (h : Head). h.child) here))
  where
    within : length heads < length (heads ++ alone child ∷ [])
    within = omega (arith, length-append heads (alone child ∷ []))

    none : length heads - length heads ≡ 0
    none = omega arith

    here : get_or (heads ++ alone child ∷ []) (length heads) (alone child) ≡ alone child
    here = get_or-append_right heads (alone child ∷ []) (length heads) (length heads) (alone child) refl (omega arith) ∙ ap (λ (n : ℕ). get_or (alone child ∷ []) n (alone child)) none

    is : set (heads ++ alone child ∷ []) (length heads) (record (get_or (heads ++ alone child ∷ []) (length heads) (alone child)) { first = first })
        ≡ heads ++ record { child = child; first = first } ∷ []
    is =
        ap (λ (h : Head). set (heads ++ alone child ∷ []) (length heads) (record h { first = first })) here
        ∙ set-append_seam heads (alone child) [] (record { child = child; first = first })

pub listed_already : (heads : List Head) (child : Oid) → AreAscendingHeads heads → IsListed heads child → IsWithChild heads child heads
listed_already heads child ascend listed = record {
  ascend = ascend;
  listed = listed;
  kept = λ x at. at;
  same = λ x. refl;
}

-- the lists are right where the first records are as they were
pub heads_chain : (old new : List Head) (records : List LinkRecord) → SameHeads old new → AreChained old records → AreChained new records
heads_chain old new records same chained = record {
  ahead = chained.ahead;
  heads = λ o. subst (λ (l : Option ℕ). IsNearest (LiesAt records) (λ (link : Link). child_of link ≡ o) Precedes l) (sym (same o)) (chained.heads o);
  once = chained.once;
}

pub same_trans : (a b c : List Head) → SameHeads a b → SameHeads b c → SameHeads a c
same_trans a b c one two x = two x ∙ one x

pub first_none : (first : Option ℕ) → is_some first ≡ false → first ≡ None
first_none None is = refl
first_none (Some place) is = absurd (true≢false is)

-- what stands at a place is listed
pub listed_at : (heads : List Head) (child : Oid) (place : ℕ) → place < length heads → ((d : Head) → (get_or heads place d).child ≡ child) → IsListed heads child
listed_at heads child place lt is =
    (place, omega (arith, lt, length-map heads (λ (h : Head). h.child)), get_or-map (λ (h : Head). h.child) heads place (alone child) child lt ∙ is (alone child))

pub listed_some : (heads : List Head) (child : Oid) (found : Option ℕ) (some : Bool) → some ≡ is_some found → some ≡ true → IfSome found (λ place. place < length heads)
    → IfSome found (λ place. (d : Head) → (get_or heads place d).child ≡ child) → IsListed heads child
listed_some heads child None some is holds inside at = absurd (true≢false (sym holds ∙ is))
listed_some heads child (Some place) some is holds inside at = listed_at heads child place inside at

-- all are below what the last is below
pub below_last : (heads : List Head) (child : Oid) (last : Head) → AreAscendingHeads heads → slice_get heads (length heads - 1) ≡ Some last
    → OnTrue (ltb last.child.0 child.0) (All (λ h. h.child.0 < child.0) heads)
below_last heads child last ascend at = at_test (ltb last.child.0 child.0) (ltb-true last.child.0 child.0)
  where
    whole : last.child.0 < child.0 → All (λ h. h.child.0 < child.0) heads
    whole lower k d lt =
        let read : get_or heads (length heads - 1) d ≡ last = get_or_from_slice_get heads (length heads - 1) last d at in
        elim (cases_lt k (length heads - 1)) [
          | inl early ↦ omega (arith, ascend k (length heads - 1) d early (omega arith), ap (λ (h : Head). h.child.0) read, lower)
          | inr late ↦
              let here : k ≡ length heads - 1 = omega arith in
              omega (arith, ap (λ n. (get_or heads n d).child.0) here, ap (λ (h : Head). h.child.0) read, lower)
        ]

    at_test : (b : Bool) → (b ≡ true → last.child.0 < child.0) → OnTrue b (All (λ h. h.child.0 < child.0) heads)
    at_test true lower = whole (lower refl)
    at_test false lower = tt

-- a child with a record is listed
listed_head : (heads : List Head) (child : Oid) (key : ℕ) → head_of heads child ≡ Some key → IsListed heads child
listed_head [] child key is = absurd (none_some is)
listed_head (head ∷ heads) child key is = elim (cases_eq head.child.0 child.0) [
  | inl same ↦ (0, omega arith, ap (λ n. record { 0 = n }) same)
  | inr other ↦
      let later = listed_head heads child key (sym (head-past head heads child other) ∙ is) in
      (suc later.0, omega (arith, later.1), later.2)
]

pub child_listed : (heads : List Head) (records : List LinkRecord) (link : Link) → AreChained heads records → HasLink records link → IsListed heads link.child
child_listed heads records link chained has =
    let at = found (LiesAt records) (λ (y : Link). child_of y ≡ link.child) Precedes (head_of heads link.child) (chained.heads link.child) has.0 link has.1 refl in
    listed_head heads link.child at.first at.is

-- where a search ends at a gap, the child isn't listed
pub none_listed : (heads : List Head) → AreAscendingHeads heads → (child : Oid) (place : ℕ) → IsBinarySearchResult (λ h. nat_cmp h.child.0 child.0) heads (Err place) → IsListed heads child → ⊥
none_listed [] ascend child place gap listed = omega (arith, listed.1)
none_listed (first ∷ heads) ascend child place gap listed =
    let parts = gap (comparisons_rise (first ∷ heads) ascend child.0) in
    let k = listed.0 in
    let lt : k < length (first ∷ heads) = omega (arith, listed.1, length-map (first ∷ heads) (λ (h : Head). h.child)) in
    let here : (get_or (first ∷ heads) k first).child.0 ≡ child.0 = ap (λ (o : Oid). o.0) (sym (get_or-map (λ (h : Head). h.child) (first ∷ heads) k first child lt) ∙ listed.2) in
    elim (cases_lt k place) [
      | inl before ↦ let lower : (get_or (first ∷ heads) k first).child.0 < child.0 = ranked _ _ Less (sym (parts.0 k first (omega arith) before)) in omega (arith, here, lower)
      | inr after ↦ let higher : child.0 < (get_or (first ∷ heads) k first).child.0 = ranked _ _ Greater (sym (parts.1 k first after lt)) in omega (arith, here, higher)
    ]

pub inserted_child : (heads new : List Head) (child : Oid) (place : ℕ) (done : Bool) → AreAscendingHeads heads → IsGap heads child place
    → new ≡ cond done (insert heads place (alone child)) heads → done ≡ true → IsWithChild heads child new
inserted_child heads new child place done ascend gap is holds =
    subst (λ (l : List Head). IsWithChild heads child l) (sym (is ∙ ap (λ (b : Bool). cond b (insert heads place (alone child)) heads) holds)) (with_child heads child place ascend gap)
