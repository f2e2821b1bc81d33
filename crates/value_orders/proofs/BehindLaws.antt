-- Objects that are given values: those that had some in their places, and the others behind all.
use Rattle.std.proofs.Common.{◌≡◌, ◌<◌, ◌≤◌, inl, inr, ℕ, Bool, true, false, not, nat_eq, cond, Less, Equal, Err, List, [], ◌∷◌, ◌++◌, length, get_or, take, drop, AllPairs, Contains, subst, refl, sym, ap, ◌∙◌, append_assoc, arith}
use Rattle.std.specs.Prelude.{filter, slice_set}
use Rattle.std.specs.Ordering.{nat_cmp}
use Rattle.std.specs.List.Sorted.{IsBinarySearchResult, IsPermutation, IsNonDecreasingBy}
use Rattle.std.proofs.lemmas.Bool.{true≢false, false_from_ne_true}
use Rattle.std.proofs.lemmas.Bool.Decides.{nat_tests}
use Rattle.std.proofs.lemmas.Cmp.{tied_itself, nat_cmp_total}
use Rattle.std.proofs.lemmas.List.{get_or_default, get_or_append_left, get_or-take, set-append_left, append-nil, length-set, length-take-le, take_at}
use Rattle.std.proofs.lemmas.List.Elements.{All-contains, Contains-append_left, Contains-append_right, Contains-append_cases, filter-append}
use Rattle.std.proofs.lemmas.List.Kept.{AllPairs-filter}
use Rattle.std.proofs.lemmas.List.Sorted.{IsPermutation-sym, Contains-permutation}
use Rattle.std.proofs.lemmas.Map.Keys.{IsDistinct-from_apart, IsDistinct-IsPermutation, apart_from_distinct}
use Rattle.lore_base.specs.Databases.{IsLive}
use Rattle.lore_base.proofs.ListLaws.{AllPairs-append}
use Rattle.lore_base.proofs.MemberLaws.{Contains-filter, unfiltered}
use Rattle.list_laws.proofs.OrderLaws.{less_from_cmp, same_from_cmp}
use Rattle.sorted_list.proofs.JoinLaws.{ascend-front, below_last}
use Rattle.value_orders.specs.Types.{Oid, Value}
use Rattle.value_orders.specs.Held.{object_cmp, AscendByObject, has_value, ArePut, less_objects}
use Rattle.value_orders.specs.inside.Puts.{IsPut, IsSetOrPushed, IsPutBehind}
use Rattle.value_orders.specs.EntryOrder.{object_total}
use Rattle.value_orders.proofs.HeldLaws.{live-has, has-live, none-live, put-set, put-first, put-next, put-last, written-whole, less-ascend, less-from, less-kept}

-- ---- one object

same_object : (a b : Oid × Value) → a.0.0 ≡ b.0.0 → a.0 ≡ b.0
same_object a b number = ap (λ n. record { 0 = n }) number

pub set-here : (old slice written seen : List (Oid × Value)) (object : Oid × Value) (known place : ℕ) → known ≤ length old → seen ≡ take known old → slice ≡ old
    → place < length seen → nat_cmp (get_or seen place object).0.0 object.0.0 ≡ Equal → written ≡ slice_set slice place object → {n : ℕ} → n ≡ length slice
    → IsSetOrPushed known object old (take n (written ++ drop (length written) old))
set-here old slice written seen object known place within seen_is slice_is lt equal is {n} long =
    let set : written ≡ slice_set old place object = is ∙ ap (λ (l : List (Oid × Value)). slice_set l place object) slice_is in
    let as_long : length written ≡ length old = ap length set ∙ length-set old place object in
    let whole : take n (written ++ drop (length written) old) ≡ written = written-whole written old n (omega (arith, long, as_long, ap length slice_is)) in
    let below : place < known = omega (arith, lt, ap length seen_is, length-take-le known old within) in
    let read : get_or seen place object ≡ get_or old place object = ap (λ (l : List (Oid × Value)). get_or l place object) seen_is ∙ get_or-take known old place object below in
    inl (place, below, sym (ap (λ (o : Oid × Value). o.0.0) read) ∙ same_from_cmp _ _ equal, whole ∙ set)

pub push-there : (old new seen : List (Oid × Value)) (object : Oid × Value) (known place : ℕ) → seen ≡ take known old → AscendByObject (take known old)
    → IsBinarySearchResult (λ (o : Oid × Value). nat_cmp o.0.0 object.0.0) seen (Err place) → new ≡ old ++ object ∷ [] → IsSetOrPushed known object old new
push-there old new seen object known place seen_is ascend gap is =
    inr (
      none-live (take known old) ascend object.0 place
          (subst (λ (l : List (Oid × Value)). IsBinarySearchResult (λ (o : Oid × Value). nat_cmp o.0.0 object.0.0) l (Err place)) seen_is gap),
      is,
    )

-- ---- one after another

-- those of objects that have values already
abbrev known_of : List (Oid × Value) → List (Oid × Value) → List (Oid × Value)
known_of old objects = filter (λ (o : Oid × Value). has_value old o.0) objects

pub behind-first : (given old : List (Oid × Value)) → AscendByObject old → IsPutBehind given given old old
behind-first given old ascend = record {
  done = [];
  front = old;
  parts = refl;
  long = refl;
  put_ones = put-last [] [] old old (put-first [] old ascend) refl;
  is = sym (append-nil old);
}

-- one more object is put among those that have values
put-more : (done old mid new : List (Oid × Value)) (object : Oid × Value) → AscendByObject (done ++ object ∷ []) → ArePut done old mid → IsPut object mid new
    → ArePut (done ++ object ∷ []) old new
put-more done old mid new object ascend puts put_one =
    put-last (done ++ object ∷ []) [] old new
    (put-next (done ++ object ∷ []) (object ∷ []) [] old mid new object ascend (record { done = done; parts = refl; put_ones = puts }) refl put_one) refl

module _ (given rest others old mid new : List (Oid × Value)) (object : Oid × Value) (ascend : AscendByObject given) (olds : AscendByObject old)
    (so_far : IsPutBehind given rest old mid) (rest_is : rest ≡ object ∷ others) where
  abbrev more : List (Oid × Value)
  more = so_far.done ++ object ∷ []

  more_parts : given ≡ more ++ others
  more_parts = so_far.parts ∙ ap (λ (l : List (Oid × Value)). so_far.done ++ l) rest_is ∙ sym (append_assoc so_far.done (object ∷ []) others)

  more_ascend : AscendByObject more
  more_ascend = ascend-front object_cmp object_total more others (subst (λ (l : List (Oid × Value)). AscendByObject l) more_parts ascend)

  -- where it has a value already
  module _ (has : has_value old object.0 ≡ true) where
    known_more : known_of old more ≡ known_of old so_far.done ++ object ∷ []
    known_more =
        filter-append (λ (o : Oid × Value). has_value old o.0) so_far.done (object ∷ [])
        ∙ ap (λ (b : Bool). known_of old so_far.done ++ cond b (object ∷ []) []) has

    behind_same : less_objects old more ≡ less_objects old so_far.done
    behind_same =
        filter-append (λ (o : Oid × Value). not (has_value old o.0)) so_far.done (object ∷ [])
        ∙ ap (λ (b : Bool). less_objects old so_far.done ++ cond (not b) (object ∷ []) []) has ∙ append-nil (less_objects old so_far.done)

  -- and where it has none
  module _ (none : has_value old object.0 ≡ false) where
    known_same : known_of old more ≡ known_of old so_far.done
    known_same =
        filter-append (λ (o : Oid × Value). has_value old o.0) so_far.done (object ∷ [])
        ∙ ap (λ (b : Bool). known_of old so_far.done ++ cond b (object ∷ []) []) none ∙ append-nil (known_of old so_far.done)

    behind_more : less_objects old more ≡ less_objects old so_far.done ++ object ∷ []
    behind_more =
        filter-append (λ (o : Oid × Value). not (has_value old o.0)) so_far.done (object ∷ [])
        ∙ ap (λ (b : Bool). less_objects old so_far.done ++ cond (not b) (object ∷ []) []) none

  -- what stands at the front has a value already
  front-has : (o : Oid × Value) → Contains so_far.front o → has_value old o.0 ≡ true
  front-has o at = elim ((so_far.put_ones.members o).0 at) [
    | inl known ↦ (unfiltered (λ (p : Oid × Value). has_value old p.0) so_far.done o known).1
    | inr kept ↦ live-has old olds o.0 (o.1, kept.0)
  ]

  -- and all that has one stands there
  has-front : has_value old object.0 ≡ true → IsLive so_far.front object.0
  has-front has =
      let live = has-live old object.0 has in (
        live.0,
        (so_far.put_ones.members (object.0, live.0)).1 (inr (
          live.1,
          λ early. (
              let at = (unfiltered (λ (p : Oid × Value). has_value old p.0) so_far.done (object.0, early.0) early.1).0 in
              let less = less_from_cmp object.0.0 object.0.0 (All-contains (λ (p : Oid × Value). object_cmp p object ≡ Less) so_far.done (object.0, early.0)
              (below_last object_cmp object_total so_far.done object more_ascend) at) in
              omega (arith, less)),
        )),
      )

  set-more : (place : ℕ) → place < length old → (get_or mid place object).0.0 ≡ object.0.0 → new ≡ slice_set mid place object → IsPutBehind given others old new
  set-more place lt number is =
      let front = so_far.front in
      let back = less_objects old so_far.done in
      let within : place < length front = omega (arith, lt, so_far.long) in
      let read : get_or mid place object ≡ get_or front place object
      = ap (λ (l : List (Oid × Value)). get_or l place object) so_far.is ∙ get_or_append_left front back object place within in
      let here : (get_or front place object).0.0 ≡ object.0.0 = sym (ap (λ (o : Oid × Value). o.0.0) read) ∙ number in
      let equal : nat_cmp (get_or front place object).0.0 object.0.0 ≡ Equal = ap (λ n. nat_cmp n object.0.0) here ∙ tied_itself nat_cmp_total object.0.0 in
      let there = front-has (get_or front place object) (place, within, get_or_default front place (get_or front place object) object within) in
      let has : has_value old object.0 ≡ true = subst (λ (o : Oid). has_value old o ≡ true) (same_object (get_or front place object) object here) there in
      let set : List (Oid × Value) = slice_set front place object in
      record {
        done = more;
        front = set;
        parts = more_parts;
        long = length-set front place object ∙ so_far.long;
        put_ones = subst (λ (l : List (Oid × Value)). ArePut l old set) (sym (known_more has))
            (put-more (known_of old so_far.done) old front set object
            (subst (λ (l : List (Oid × Value)). AscendByObject l) (known_more has)
            (AllPairs-filter (λ (a b : Oid × Value). object_cmp a b ≡ Less) (λ (o : Oid × Value). has_value old o.0) more more_ascend)) so_far.put_ones
            (put-set front set object place so_far.put_ones.ascend within equal refl));
        is = is ∙ ap (λ (l : List (Oid × Value)). slice_set l place object) so_far.is ∙ set-append_left front back place object within
            ∙ ap (λ (l : List (Oid × Value)). set ++ l) (sym (behind_same has));
      }

  push-more : (IsLive (take (length old) mid) object.0 → ⊥) → new ≡ mid ++ object ∷ [] → IsPutBehind given others old new
  push-more absent is =
      let front = so_far.front in
      let back = less_objects old so_far.done in
      let front_is : take (length old) mid ≡ front = ap (take (length old)) so_far.is ∙ take_at front back (length old) so_far.long in
      let none : has_value old object.0 ≡ false
      = false_from_ne_true (has_value old object.0) (λ has. subst (λ (l : List (Oid × Value)). IsLive l object.0 → ⊥) front_is absent (has-front has)) in
      record {
        done = more;
        front = front;
        parts = more_parts;
        long = so_far.long;
        put_ones = subst (λ (l : List (Oid × Value)). ArePut l old front) (sym (known_same none)) so_far.put_ones;
        is = is ∙ ap (λ (l : List (Oid × Value)). l ++ object ∷ []) so_far.is ∙ append_assoc front back (object ∷ [])
            ∙ ap (λ (l : List (Oid × Value)). front ++ l) (sym (behind_more none));
      }

  pub behind-next : IsSetOrPushed (length old) object mid new → IsPutBehind given others old new
  behind-next either = elim either [ inl set ↦ set-more set.0 set.1 set.2 set.3 | inr pushed ↦ push-more pushed.0 pushed.1 ]

-- so many objects at the front ascend all the time
pub front-ascends : (given rest old mid : List (Oid × Value)) (known : ℕ) → known ≡ length old → IsPutBehind given rest old mid → AscendByObject (take known mid)
front-ascends given rest old mid known known_is so_far =
    let front_is : take known mid ≡ so_far.front = ap (take known) so_far.is ∙ take_at so_far.front (less_objects old so_far.done) known (so_far.long ∙ sym known_is) in
    subst (λ (l : List (Oid × Value)). AscendByObject l) (sym front_is) so_far.put_ones.ascend

-- ---- sorted at the end

eq_flips : (a b : ℕ) → nat_eq a b ≡ nat_eq b a
eq_flips a b = grind (arith, nat_tests)

apart_numbers : (a b : ℕ) → (a ≡ b → ⊥) → nat_eq a b ≡ false
apart_numbers a b other = false_from_ne_true (nat_eq a b) (λ h. other (let same : a ≡ b = grind (arith, nat_tests) in same))

rises : (a b : ℕ) → a ≤ b → nat_eq a b ≡ false → nat_cmp a b ≡ Less
rises a b le other = grind (arith, nat_tests)

falls_not : (a b : ℕ) → nat_cmp a b ≡ Less → a ≡ b → ⊥
falls_not a b less same = omega (arith, less_from_cmp a b less, same)

pub behind-sorted : (given old mid new : List (Oid × Value)) → AscendByObject given → AscendByObject old → IsPutBehind given [] old mid → IsPermutation mid new
    → IsNonDecreasingBy (λ (o : Oid × Value). o.0.0) new → ArePut given old new
behind-sorted given old mid new ascend olds so_far moved sorted =
    let test : Oid × Value → Oid × Value → Bool = λ a b. nat_eq a.0.0 b.0.0 in
    let front = so_far.front in
    let back = less_objects old given in
    let all : given ≡ so_far.done = so_far.parts ∙ append-nil so_far.done in
    let puts = subst (λ (l : List (Oid × Value)). ArePut (known_of old l) old front) (sym all) so_far.put_ones in
    let is : mid ≡ front ++ back = so_far.is ∙ ap (λ (l : List (Oid × Value)). front ++ less_objects old l) (sym all) in
    let back_ascend = less-ascend old given ascend in
    -- no number stands twice
    let apart : AllPairs (λ (a b : Oid × Value). test a b ≡ false) (front ++ back) = AllPairs-append (λ (a b : Oid × Value). test a b ≡ false) front back
    (λ i j d lt len. apart_numbers (get_or front i d).0.0 (get_or front j d).0.0 (falls_not _ _ (puts.ascend i j d lt len)))
    (λ i j d lt len. apart_numbers (get_or back i d).0.0 (get_or back j d).0.0 (falls_not _ _ (back_ascend i j d lt len)))
    (λ i j d lt_i lt_j.
    let a = get_or front i d in
    let b = get_or back j d in
    let there : Contains front a = (i, lt_i, get_or_default front i a d lt_i) in
    let new_one = less-from old given olds b (j, lt_j, get_or_default back j b d lt_j) in
    apart_numbers a.0.0 b.0.0 (λ number.
    let live : IsLive old a.0 = elim ((puts.members a).0 there) [
      | inl known ↦ has-live old a.0 (unfiltered (λ (p : Oid × Value). has_value old p.0) given a known).1
      | inr kept ↦ (a.1, kept.0)
    ] in
    new_one.1 (subst (λ (o : Oid). IsLive old o) (same_object a b number) live))) in
    let from_parts = subst (λ (l : List (Oid × Value)). IsPermutation l new) is moved in
    let still = IsDistinct-IsPermutation test (λ a b. eq_flips a.0.0 b.0.0) (front ++ back) new from_parts (IsDistinct-from_apart test (front ++ back) apart) in
    record {
      ascend = λ i j d lt len. rises (get_or new i d).0.0 (get_or new j d).0.0 (sorted i j d (omega (arith, lt)) len) (apart_from_distinct test new i j d still lt len);
      members = λ o. (
        λ at. elim (Contains-append_cases front back o (Contains-permutation new (front ++ back) o (IsPermutation-sym (front ++ back) new from_parts) at)) [
          | inl early ↦ elim ((puts.members o).0 early) [
            | inl known ↦ inl (unfiltered (λ (p : Oid × Value). has_value old p.0) given o known).0
            | inr kept ↦ inr (
              kept.0,
              λ live. kept.1 (live.0, Contains-filter (λ (p : Oid × Value). has_value old p.0) given (o.0, live.0) live.1 (live-has old olds o.0 (o.1, kept.0))),
            )
          ]
          | inr late ↦ inl (less-from old given olds o late).0
        ],
        λ either. Contains-permutation (front ++ back) new o from_parts (elim either [
          | inl comes ↦ elim (has_value old o.0) as (λ b. has_value old o.0 ≡ b → Contains (front ++ back) o) [
            | true ↦ λ has. Contains-append_left front back o ((puts.members o).1 (inl (Contains-filter (λ (p : Oid × Value). has_value old p.0) given o comes has)))
            | false ↦ λ none. Contains-append_right front back o
                (less-kept old given o comes (λ live. true≢false (sym (live-has old olds o.0 live) ∙ none)))
          ] refl
          | inr kept ↦ Contains-append_left front back o ((puts.members o).1 (inr (
            kept.0,
            λ live. kept.1 (live.0, (unfiltered (λ (p : Oid × Value). has_value old p.0) given (o.0, live.0) live.1).0),
          )))
        ]),
      );
    }
