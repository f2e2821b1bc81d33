-- Values of objects: what is found among them, and what becomes of them where values are put and objects leave.
use Rattle.std.proofs.Common.{◌≡◌, ◌==◌, ◌+◌, ◌<◌, inl, inr, ℕ, Bool, if◌then◌else◌, true, false, not, cond, Less, Equal, Err, List, [], ◌∷◌, ◌++◌, length, get_or, take, drop, All, Contains, subst, refl, sym, ap, ◌∙◌, append_assoc, arith}
use Rattle.std.specs.Prelude.{Option, Some, None, is_some, unwrap_or, slice_set}
use Rattle.std.specs.Ordering.{nat_cmp}
use Rattle.std.specs.List.Sorted.{IsBinarySearchResult}
use Rattle.std.proofs.lemmas.Bool.{true≢false, false_from_ne_true}
use Rattle.std.proofs.lemmas.Bool.Decides.{nat_tests}
use Rattle.std.proofs.lemmas.Cmp.{tied_itself}
use Rattle.std.proofs.lemmas.List.{length-take-le, take-append-drop, get_or_default, set_at, append-nil, length-set, nil_from_length}
use Rattle.std.proofs.lemmas.List.Elements.{All-contains, Contains-push, Contains-push_cases, Contains-append_left}
use Rattle.std.proofs.lemmas.List.Kept.{AllPairs-filter}
use Rattle.lore_base.specs.Databases.{IsLive}
use Rattle.lore_base.proofs.ListLaws.{AllPairs-head, AllPairs-tail}
use Rattle.lore_base.proofs.MemberLaws.{Contains-none, Contains-head, Contains-tail, Contains-cases, Contains-same, Contains-filter, unfiltered}
use Rattle.list_laws.proofs.AscentLaws.{AllPairs-once}
use Rattle.list_laws.proofs.OrderLaws.{eqb_itself, less_from_cmp, same_from_cmp}
use Rattle.list_laws.proofs.PartLaws.{drop_more_read, filter_all}
use Rattle.index_traits.proofs.ObjectLaws.{same_oid}
use Rattle.sorted_list.specs.inside.Single.{IsWithout, IsWith}
use Rattle.sorted_list.proofs.JoinLaws.{ascend-front, below_last}
use Rattle.sorted_list.proofs.ListedLaws.{found, not_found}
use Rattle.sorted_list.proofs.SingleLaws.{all_below, all_above, without, with_item, put}
use Rattle.value_orders.specs.Types.{Oid, Value, Complex}
use Rattle.value_orders.specs.Held.{object_cmp, AscendByObject, value_in, held, has_value, ArePut, less_objects}
use Rattle.value_orders.specs.inside.Puts.{IsPut}
use Rattle.value_orders.specs.EntryOrder.{object_total}

-- ---- what is found

pub value-some : (values : List (Oid × Value)) (oid : Oid) (value : Value) → value_in values oid ≡ Some value → Contains values (oid, value)
value-some [] oid value h = absurd (cc)
value-some (first ∷ values) oid value h =
    elim (first.0.0 == oid.0) as (λ (b : Bool). (first.0.0 == oid.0) ≡ b → cond b (Some first.1) (value_in values oid) ≡ Some value → Contains (first ∷ values) (oid, value)) [
      | true ↦ λ is at. (
          let same : first.1 ≡ value = (let both : Some first.1 ≡ Some value = at in cc) in
          let object = same_oid first.0 oid is in
          Contains-same (first ∷ values) first (oid, value) (λ i. (object i, same i)) (Contains-head first values))
      | false ↦ λ _ at. Contains-tail first values (oid, value) (value-some values oid value at)
    ] refl h

pub value-member : (values : List (Oid × Value)) → AscendByObject values → (oid : Oid) (value : Value) → Contains values (oid, value) → value_in values oid ≡ Some value
value-member [] ascend oid value at = absurd (Contains-none (oid, value) at)
value-member (first ∷ values) ascend oid value at = elim (Contains-cases first values (oid, value) at) [
  | inl same ↦ (
      let test : (first.0.0 == oid.0) ≡ true = subst (λ (o : Oid × Value). (first.0.0 == o.0.0) ≡ true) same (eqb_itself first.0.0) in
      ap (λ (b : Bool). cond b (Some first.1) (value_in values oid)) test ∙ ap (λ (o : Oid × Value). Some o.1) same)
  | inr later ↦ (
      let less = AllPairs-head (λ (a b : Oid × Value). object_cmp a b ≡ Less) first values ascend (oid, value) later in
      let lt : first.0.0 < oid.0 = less_from_cmp _ _ less in
      let test : (first.0.0 == oid.0) ≡ false = grind (arith, nat_tests) in
      ap (λ (b : Bool). cond b (Some first.1) (value_in values oid)) test
      ∙ value-member values (AllPairs-tail (λ (a b : Oid × Value). object_cmp a b ≡ Less) first values ascend) oid value later)
]

pub value-none : (values : List (Oid × Value)) (oid : Oid) → (IsLive values oid → ⊥) → value_in values oid ≡ None
value-none values oid none =
    elim (value_in values oid) as (λ (o : Option Value). value_in values oid ≡ o → o ≡ None) [
      | None ↦ λ _. refl
      | Some value ↦ λ is. absurd (none (value, value-some values oid value is))
    ] refl

-- the value that an object has
pub held-member : (values : List (Oid × Value)) → AscendByObject values → (oid : Oid) (value : Value) → Contains values (oid, value) → held values oid ≡ value
held-member values ascend oid value at = ap (λ (o : Option Value). unwrap_or o Complex) (value-member values ascend oid value at)

pub live-has : (values : List (Oid × Value)) → AscendByObject values → (oid : Oid) → IsLive values oid → has_value values oid ≡ true
live-has values ascend oid live = ap is_some (value-member values ascend oid live.0 live.1)

pub has-live : (values : List (Oid × Value)) (oid : Oid) → has_value values oid ≡ true → IsLive values oid
has-live values oid has =
    elim (value_in values oid) as (λ (o : Option Value). value_in values oid ≡ o → is_some o ≡ true → IsLive values oid) [
      | None ↦ λ _ none. absurd (true≢false (sym none))
      | Some value ↦ λ is _. (value, value-some values oid value is)
    ] refl has

-- objects with one number have one value
pub one_object : (values : List (Oid × Value)) → AscendByObject values → (a b : Oid × Value) → Contains values a → Contains values b → a.0.0 ≡ b.0.0 → a ≡ b
one_object values ascend a b first second number =
    AllPairs-once (λ (x y : Oid × Value). object_cmp x y ≡ Less) values ascend a b first second
    (λ less. omega (arith, number, less_from_cmp a.0.0 b.0.0 less)) (λ less. omega (arith, number, less_from_cmp b.0.0 a.0.0 less))

-- what stands at a place with the object's number
pub found-value : (values : List (Oid × Value)) → AscendByObject values → (oid : Oid) (place : ℕ) (d : Oid × Value) → place < length values
    → nat_cmp (get_or values place d).0.0 oid.0 ≡ Equal → value_in values oid ≡ Some (get_or values place d).1
found-value values ascend oid place d lt equal =
    let object = get_or values place d in
    let number : object.0.0 ≡ oid.0 = same_from_cmp _ _ equal in
    let same : ◌≡◌ {A = Oid × Value} object (oid, object.1) = ap (λ n. (record { 0 = n }, object.1)) number in
    value-member values ascend oid object.1 (place, lt, get_or_default values place (oid, object.1) d lt ∙ same)

pub here-value : (values : List (Oid × Value)) → AscendByObject values → (oid : Oid) (place : ℕ) (object : Oid × Value) → place < length values
    → object ≡ get_or values place object → (object.0.0 == oid.0) ≡ true → value_in values oid ≡ Some object.1
here-value values ascend oid place object lt is tested =
    let number : object.0.0 ≡ oid.0 = grind (arith, nat_tests) in
    let same : ◌≡◌ {A = Oid × Value} object (oid, object.1) = ap (λ n. (record { 0 = n }, object.1)) number in
    value-member values ascend oid object.1 (place, lt, get_or_default values place (oid, object.1) object lt ∙ sym is ∙ same)

-- where a search ends at a gap
pub none-live : (values : List (Oid × Value)) → AscendByObject values → (oid : Oid) (place : ℕ)
    → IsBinarySearchResult (λ (o : Oid × Value). nat_cmp o.0.0 oid.0) values (Err place) → IsLive values oid → ⊥
none-live values ascend oid place gap live =
    let object : Oid × Value = (oid, live.0) in
    let here : object_cmp (get_or values live.1.0 object) object ≡ Equal = ap (λ (o : Oid × Value). object_cmp o object) live.1.2 ∙ tied_itself object_total object in
    true≢false (sym (found object_cmp object_total values object live.1.0 object live.1.1 here) ∙ not_found object_cmp object_total values ascend object place gap)

-- ---- one object is put

pub put-set : (old new : List (Oid × Value)) (object : Oid × Value) (place : ℕ) → AscendByObject old → place < length old
    → nat_cmp (get_or old place object).0.0 object.0.0 ≡ Equal → new ≡ slice_set old place object → IsPut object old new
put-set old new object place ascend lt equal is =
    let x = get_or old place object in
    let front = take place old in
    let back = drop (place + 1) old in
    let number : x.0.0 ≡ object.0.0 = same_from_cmp _ _ equal in
    let whole : old ≡ front ++ x ∷ back
    = sym (take-append-drop place old) ∙ ap (λ (l : List (Oid × Value)). front ++ l) (drop_more_read old place x lt (sym (get_or_default old place x object lt))) in
    let long : length front ≡ place = length-take-le place old (omega (arith, lt)) in
    let new_is : new ≡ front ++ object ∷ back
    = is ∙ ap (λ (l : List (Oid × Value)). slice_set l place object) whole ∙ set_at front x back object place long in
    let parts = subst (λ (l : List (Oid × Value)). AscendByObject l) whole ascend in
    let below = subst (λ n. All (λ (o : Oid × Value). nat_cmp o.0.0 n ≡ Less) front) number (all_below object_cmp object_total front back x parts) in
    let above = subst (λ n. All (λ (o : Oid × Value). nat_cmp n o.0.0 ≡ Less) back) number (all_above object_cmp object_total front back x parts) in
    let less : IsWithout object_cmp x old (front ++ back)
    = subst (λ (l : List (Oid × Value)). IsWithout object_cmp x l (front ++ back)) (sym whole) (without object_cmp object_total front back x parts) in
    let more : IsWith object_cmp object (front ++ back) new
    = subst (λ (l : List (Oid × Value)). IsWith object_cmp object (front ++ back) l) (sym new_is) (with_item object_cmp object_total front back object less.ascend below above) in
    let there : Contains old x = (place, lt, get_or_default old place x object lt) in
    record {
      ascend = more.ascend;
      members = λ o. (
        λ at. elim ((more.members o).0 at) [
          | inl kept ↦ (
              let both = (less.members o).0 kept in
              inr (both.0, λ same. both.1 (one_object old ascend o x both.0 there (ap (λ (k : Oid). k.0) same ∙ sym number))))
          | inr same ↦ inl same
        ],
        λ either. elim either [
          | inl same ↦ (more.members o).1 (inr same)
          | inr both ↦ (more.members o).1 (inl ((less.members o).1 (
            both.0,
            λ same. both.1 (let numbers : o.0.0 ≡ object.0.0 = ap (λ (p : Oid × Value). p.0.0) same ∙ number in ap (λ n. record { 0 = n }) numbers),
          )))
        ],
      );
    }

pub put-gap : (old new : List (Oid × Value)) (object : Oid × Value) (place : ℕ) → AscendByObject old
    → IsBinarySearchResult (λ (o : Oid × Value). nat_cmp o.0.0 object.0.0) old (Err place) → new ≡ take place old ++ object ∷ drop place old
    → IsPut object old new
put-gap old new object place ascend gap is =
    let more = put object_cmp object_total old new object place ascend gap is in
    record {
      ascend = more.ascend;
      members = λ o. (
        λ at. elim ((more.members o).0 at) [
          | inl kept ↦ inr (
            kept,
            λ same. none-live old ascend object.0 place gap (o.1, Contains-same old o (object.0, o.1) (λ i. (same i, o.1)) kept),
          )
          | inr same ↦ inl same
        ],
        λ either. elim either [ inl same ↦ (more.members o).1 (inr same) | inr both ↦ (more.members o).1 (inl both.0) ],
      );
    }

-- ---- objects are put, one after another

pub record IsPutSoFar (given rest old new : List (Oid × Value)) : Type 0 where
  pub done : List (Oid × Value)
  pub parts : given ≡ done ++ rest
  pub put_ones : ArePut done old new

pub put-first : (given old : List (Oid × Value)) → AscendByObject old → IsPutSoFar given given old old
put-first given old ascend = record {
  done = [];
  parts = refl;
  put_ones = record {
    ascend = ascend;
    members = λ o. (
      λ at. inr (at, λ live. Contains-none _ live.1),
      λ either. elim either [ inl none ↦ absurd (Contains-none o none) | inr both ↦ both.0 ],
    );
  };
}

pub put-next : (given rest others old mid new : List (Oid × Value)) (object : Oid × Value) → AscendByObject given → IsPutSoFar given rest old mid
    → rest ≡ object ∷ others → IsPut object mid new → IsPutSoFar given others old new
put-next given rest others old mid new object ascend so_far rest_is put_one =
    let done = so_far.done in
    let before = so_far.put_ones in
    let more : List (Oid × Value) = done ++ object ∷ [] in
    let parts : given ≡ more ++ others = so_far.parts ∙ ap (λ (l : List (Oid × Value)). done ++ l) rest_is ∙ sym (append_assoc done (object ∷ []) others) in
    let front : AscendByObject more = ascend-front object_cmp object_total more others (subst (λ (l : List (Oid × Value)). AscendByObject l) parts ascend) in
    let below = below_last object_cmp object_total done object front in
    let apart : (o : Oid × Value) → Contains done o → o.0 ≡ object.0 → ⊥
    = λ o at same. (let less = All-contains (λ (p : Oid × Value). object_cmp p object ≡ Less) done o below at in omega (arith, less_from_cmp o.0.0 object.0.0 less, ap (λ (k : Oid). k.0) same)) in
    record {
      done = more;
      parts = parts;
      put_ones = record {
        ascend = put_one.ascend;
        members = λ o. (
          λ at. elim ((put_one.members o).0 at) [
            | inl same ↦ inl (Contains-same more object o (sym same) (Contains-push done object))
            | inr both ↦ elim ((before.members o).0 both.0) [
              | inl comes ↦ inl (Contains-append_left done (object ∷ []) o comes)
              | inr kept ↦ inr (
                kept.0,
                λ live. elim (Contains-push_cases done object (o.0, live.0) live.1) [
                  | inl early ↦ kept.1 (live.0, early)
                  | inr same ↦ both.1 (sym (ap (λ (p : Oid × Value). p.0) same))
                ],
              )
            ]
          ],
          λ either. (put_one.members o).1 (elim either [
            | inl comes ↦ elim (Contains-push_cases done object o comes) [
              | inl early ↦ inr ((before.members o).1 (inl early), apart o early)
              | inr same ↦ inl (sym same)
            ]
            | inr kept ↦ inr (
              (before.members o).1 (inr (kept.0, λ live. kept.1 (live.0, Contains-append_left done (object ∷ []) (o.0, live.0) live.1))),
              λ same. kept.1 (object.1, Contains-same more object (o.0, object.1) (λ i. (sym same i, object.1)) (Contains-push done object)),
            )
          ]),
        );
      };
    }

pub put-last : (given rest old new : List (Oid × Value)) → IsPutSoFar given rest old new → rest ≡ [] → ArePut given old new
put-last given rest old new so_far none =
    let whole : so_far.done ≡ given = sym (so_far.parts ∙ ap (λ (l : List (Oid × Value)). so_far.done ++ l) none ∙ append-nil so_far.done) in
    subst (λ (l : List (Oid × Value)). ArePut l old new) whole so_far.put_ones

-- a list that is written through a slice
pub written-whole : (written old : List (Oid × Value)) (n : ℕ) → n ≡ length written → take n (written ++ drop (length written) old) ≡ written
written-whole written old n long =
    ap (λ k. take k (written ++ drop (length written) old)) long ∙ take_front written (drop (length written) old)
  where
    take_front : (xs ys : List (Oid × Value)) → take (length xs) (xs ++ ys) ≡ xs
    take_front [] ys = refl
    take_front (x ∷ xs) ys = ap (λ (l : List (Oid × Value)). x ∷ l) (take_front xs ys)

-- the same of a vector that was searched, and written through a slice or inserted into
pub set-put : (old searched slice written : List (Oid × Value)) (object : Oid × Value) (place : ℕ) → searched ≡ old → slice ≡ old → AscendByObject old
    → place < length searched → nat_cmp (get_or searched place object).0.0 object.0.0 ≡ Equal → written ≡ slice_set slice place object → {n : ℕ} → n ≡ length slice
    → IsPut object old (take n (written ++ drop (length written) old))
set-put old searched slice written object place searched_are slice_is ascend lt equal is {n} long =
    let set : written ≡ slice_set old place object = is ∙ ap (λ (l : List (Oid × Value)). slice_set l place object) slice_is in
    let as_long : length written ≡ length old = ap length set ∙ length-set old place object in
    let whole : take n (written ++ drop (length written) old) ≡ written = written-whole written old n (omega (arith, long, as_long, ap length slice_is)) in
    subst (λ (l : List (Oid × Value)). IsPut object old l) (sym whole)
    (put-set old written object place ascend (subst (λ (l : List (Oid × Value)). place < length l) searched_are lt)
    (subst (λ (l : List (Oid × Value)). nat_cmp (get_or l place object).0.0 object.0.0 ≡ Equal) searched_are equal) set)

pub gap-put : (old searched new : List (Oid × Value)) (object : Oid × Value) (place : ℕ) → searched ≡ old → AscendByObject old
    → IsBinarySearchResult (λ (o : Oid × Value). nat_cmp o.0.0 object.0.0) searched (Err place) → (done : Bool)
    → new ≡ (if done then take place old ++ object ∷ drop place old else old) → done ≡ true → IsPut object old new
gap-put old searched new object place searched_are ascend gap done new_is is_done =
    put-gap old new object place ascend
    (subst (λ (l : List (Oid × Value)). IsBinarySearchResult (λ (o : Oid × Value). nat_cmp o.0.0 object.0.0) l (Err place)) searched_are gap)
    (new_is ∙ ap (λ (b : Bool). if b then take place old ++ object ∷ drop place old else old) is_done)

-- ---- objects leave

pub less-ascend : (leaving values : List (Oid × Value)) → AscendByObject values → AscendByObject (less_objects leaving values)
less-ascend leaving values ascend =
    AllPairs-filter (λ (a b : Oid × Value). object_cmp a b ≡ Less) (λ object. not (has_value leaving object.0)) values ascend

pub less-none : (values : List (Oid × Value)) → less_objects [] values ≡ values
less-none values = filter_all (λ (object : Oid × Value). not (has_value [] object.0)) values (λ k d lt. refl)

-- where none leaves
none_there : (n : ℕ) → (n == 0) ≡ true → n ≡ 0
none_there n h = grind (arith, nat_tests)

pub less-empty : (leaving values : List (Oid × Value)) (test : Bool) → test ≡ (length leaving == 0) → test ≡ true → values ≡ less_objects leaving values
less-empty leaving values test is told =
    let none : leaving ≡ [] = nil_from_length leaving (none_there (length leaving) (sym is ∙ told)) in
    subst (λ (l : List (Oid × Value)). values ≡ less_objects l values) (sym none) (sym (less-none values))

pub less-kept : (leaving values : List (Oid × Value)) (object : Oid × Value) → Contains values object → (IsLive leaving object.0 → ⊥) → Contains (less_objects leaving values) object
less-kept leaving values object at stays =
    Contains-filter (λ (o : Oid × Value). not (has_value leaving o.0)) values object at
    (ap not (false_from_ne_true (has_value leaving object.0) (λ has. stays (has-live leaving object.0 has))))

pub less-from : (leaving values : List (Oid × Value)) → AscendByObject leaving → (object : Oid × Value) → Contains (less_objects leaving values) object
    → Contains values object × (IsLive leaving object.0 → ⊥)
less-from leaving values ascend object at =
    let kept = unfiltered (λ (o : Oid × Value). not (has_value leaving o.0)) values object at in
    (kept.0, λ live. true≢false (sym kept.1 ∙ ap not (live-has leaving ascend object.0 live)))
