-- What is left of values where objects are taken out one by one.
use Rattle.std.proofs.Common.{◌≡◌, ◌==◌, ◌+◌, ◌<◌, ◌&&◌, ◌||◌, ℕ, Bool, true, false, not, cond, Less, Equal, Err, List, [], ◌∷◌, ◌++◌, length, get_or, take, drop, subst, refl, sym, ap, ◌∙◌, arith}
use Rattle.std.specs.Prelude.{Some, None, is_some, filter}
use Rattle.std.specs.Ordering.{nat_cmp}
use Rattle.std.specs.List.Sorted.{IsBinarySearchResult}
use Rattle.std.proofs.lemmas.Bool.{false_from_ne_true}
use Rattle.std.proofs.lemmas.Bool.Decides.{nat_tests}
use Rattle.std.proofs.lemmas.List.{take-append-drop, get_or_default}
use Rattle.std.proofs.lemmas.List.Elements.{All-contains, filter-append}
use Rattle.lore_base.proofs.MemberLaws.{Contains-same}
use Rattle.list_laws.proofs.MemberLaws.{All-from_members}
use Rattle.list_laws.proofs.OrderLaws.{less_from_cmp, same_from_cmp}
use Rattle.list_laws.proofs.PartLaws.{drop_more_read, filter_all}
use Rattle.index_traits.proofs.ObjectLaws.{same_oid}
use Rattle.sorted_list.proofs.SingleLaws.{all_below, all_above}
use Rattle.value_orders.specs.Types.{Oid, Value, Complex}
use Rattle.value_orders.specs.Held.{object_cmp, AscendByObject, value_in, has_value, less_objects}
use Rattle.value_orders.specs.inside.Puts.{less_object}
use Rattle.value_orders.specs.EntryOrder.{object_total}
use Rattle.value_orders.proofs.HeldLaws.{none-live}

-- ---- one object is taken out

other_number : (a b : ℕ) → (a ≡ b → ⊥) → not (a == b) ≡ true
other_number a b other = ap not (false_from_ne_true (a == b) (λ h. other (let same : a ≡ b = grind (arith, nat_tests) in same)))

same_number : (a b : ℕ) → a ≡ b → not (a == b) ≡ false
same_number a b same = grind (arith, nat_tests)

pub less-here : (values : List (Oid × Value)) → AscendByObject values → (oid : Oid) (place : ℕ) (d : Oid × Value) → place < length values
    → nat_cmp (get_or values place d).0.0 oid.0 ≡ Equal → less_object oid values ≡ take place values ++ drop (place + 1) values
less-here values ascend oid place d lt equal =
    let x = get_or values place d in
    let front = take place values in
    let back = drop (place + 1) values in
    let keeps : Oid × Value → Bool = λ object. not (oid.0 == object.0.0) in
    let number : x.0.0 ≡ oid.0 = same_from_cmp _ _ equal in
    let whole : values ≡ front ++ x ∷ back
    = sym (take-append-drop place values) ∙ ap (λ (l : List (Oid × Value)). front ++ l) (drop_more_read values place x lt (sym (get_or_default values place x d lt))) in
    let parts = subst (λ (l : List (Oid × Value)). AscendByObject l) whole ascend in
    let below = all_below object_cmp object_total front back x parts in
    let above = all_above object_cmp object_total front back x parts in
    let front_stays : filter keeps front ≡ front = filter_all keeps front (All-from_members (λ o. keeps o ≡ true) front (λ o at.
    let less = less_from_cmp o.0.0 x.0.0 (All-contains (λ (p : Oid × Value). object_cmp p x ≡ Less) front o below at) in
    other_number oid.0 o.0.0 (λ same. omega (arith, less, number, same)))) in
    let back_stays : filter keeps back ≡ back = filter_all keeps back (All-from_members (λ o. keeps o ≡ true) back (λ o at.
    let less = less_from_cmp x.0.0 o.0.0 (All-contains (λ (p : Oid × Value). object_cmp x p ≡ Less) back o above at) in
    other_number oid.0 o.0.0 (λ same. omega (arith, less, number, same)))) in
    let goes : keeps x ≡ false = same_number oid.0 x.0.0 (sym number) in
    ap (filter keeps) whole ∙ filter-append keeps front (x ∷ back)
    ∙ ap (λ (l : List (Oid × Value)). l ++ filter keeps (x ∷ back)) front_stays
    ∙ ap (λ (b : Bool). front ++ cond b (x ∷ filter keeps back) (filter keeps back)) goes
    ∙ ap (λ (l : List (Oid × Value)). front ++ l) back_stays

pub less-gap : (values : List (Oid × Value)) → AscendByObject values → (oid : Oid) (place : ℕ)
    → IsBinarySearchResult (λ (o : Oid × Value). nat_cmp o.0.0 oid.0) values (Err place) → less_object oid values ≡ values
less-gap values ascend oid place gap =
    filter_all (λ (object : Oid × Value). not (oid.0 == object.0.0)) values
    (All-from_members (λ (object : Oid × Value). not (oid.0 == object.0.0) ≡ true) values (λ o at.
    ap not (false_from_ne_true (oid.0 == o.0.0) (λ h.
    let same = same_oid oid o.0 h in
    none-live values ascend oid place gap (o.1, Contains-same values o (oid, o.1) (λ i. (sym same i, o.1)) at)))))

-- ---- one after another

filter-twice : {X : Type 0} (p q r : X → Bool) → ((x : X) → r x ≡ (p x && q x)) → (xs : List X) → filter q (filter p xs) ≡ filter r xs
filter-twice p q r both [] = refl
filter-twice {X} p q r both (x ∷ xs) =
    let rest = filter-twice p q r both xs in
    let step : filter q (cond (p x) (x ∷ filter p xs) (filter p xs)) ≡ cond (p x && q x) (x ∷ filter r xs) (filter r xs)
    = elim (p x) as (λ (b : Bool). filter q (cond b (x ∷ filter p xs) (filter p xs)) ≡ cond (b && q x) (x ∷ filter r xs) (filter r xs)) [
      | true ↦ ap (λ (l : List X). cond (q x) (x ∷ l) l) rest
      | false ↦ rest
    ] in
    step ∙ ap (λ (b : Bool). cond b (x ∷ filter r xs) (filter r xs)) (sym (both x))

not_either : (a b : Bool) → not (a || b) ≡ (not a && not b)
not_either true b = refl
not_either false b = refl

has-more : (objects : List (Oid × Value)) (last : Oid × Value) (oid : Oid) → has_value (objects ++ last ∷ []) oid ≡ (has_value objects oid || (last.0.0 == oid.0))
has-more [] last oid = elim (last.0.0 == oid.0) as (λ (b : Bool). is_some (cond b (Some last.1) None) ≡ b) [ true ↦ refl | false ↦ refl ]
has-more (first ∷ rest) last oid =
    elim (first.0.0 == oid.0) as (λ (b : Bool). is_some (cond b (Some first.1) (value_in (rest ++ last ∷ []) oid)) ≡ (is_some (cond b (Some first.1) (value_in rest oid)) || (last.0.0 == oid.0))) [
      | true ↦ refl
      | false ↦ has-more rest last oid
    ]

pub less-more : (leaving : List (Oid × Value)) (last : Oid × Value) (values : List (Oid × Value))
    → less_object last.0 (less_objects leaving values) ≡ less_objects (leaving ++ last ∷ []) values
less-more leaving last values =
    filter-twice (λ (o : Oid × Value). not (has_value leaving o.0)) (λ (o : Oid × Value). not (last.0.0 == o.0.0)) (λ (o : Oid × Value). not (has_value (leaving ++ last ∷ []) o.0))
    (λ o. ap not (has-more leaving last o.0) ∙ not_either (has_value leaving o.0) (last.0.0 == o.0.0)) values

-- the same of a vector that was searched
pub less-found : (values searched less : List (Oid × Value)) (oid : Oid) (place : ℕ) → searched ≡ values → AscendByObject values → place < length searched
    → ((d : Oid × Value) → nat_cmp (get_or searched place d).0.0 oid.0 ≡ Equal) → less ≡ take place values ++ drop (place + 1) values
    → less ≡ less_object oid values
less-found values searched less oid place seen ascend lt equal is =
    let d : Oid × Value = (oid, Complex) in
    is ∙ sym (less-here values ascend oid place d (subst (λ (l : List (Oid × Value)). place < length l) seen lt)
    (subst (λ (l : List (Oid × Value)). nat_cmp (get_or l place d).0.0 oid.0 ≡ Equal) seen (equal d)))

pub less-absent : (values searched : List (Oid × Value)) (oid : Oid) (place : ℕ) → searched ≡ values → AscendByObject values
    → IsBinarySearchResult (λ (o : Oid × Value). nat_cmp o.0.0 oid.0) searched (Err place) → values ≡ less_object oid values
less-absent values searched oid place seen ascend gap =
    sym (less-gap values ascend oid place (subst (λ (l : List (Oid × Value)). IsBinarySearchResult (λ (o : Oid × Value). nat_cmp o.0.0 oid.0) l (Err place)) seen gap))
