-- The order of entries by label, value and object.
use Rattle.std.proofs.Common.{◌≡◌, ◌<◌, ℕ, Bool, true, ◌==◌, ◌&&◌, nat_cmp, Equal, List, length, get_or, Contains, sym, ap, subst, arith}
use Rattle.std.specs.declared.cmp.Ordering.{Ordering}
use Rattle.std.specs.declared.cmp.Ordering.TheVariants.{Less}
use Rattle.std.specs.Ordering.{ordering_then, is_eq, eq_by_cmp}
use Rattle.std.specs.Cmp.{both_ways}
use Rattle.std.proofs.lemmas.Bool.{and_from, and_parts}
use Rattle.std.proofs.lemmas.Bool.Decides.{nat_tests}
use Rattle.std.proofs.lemmas.Cmp.{tied_itself}
use Rattle.std.proofs.lemmas.List.Elements.{Contains-get_or}
use Rattle.list_laws.proofs.OrderLaws.{same_from_cmp, eqb_itself, Equal-from_test}
use Rattle.index_traits.proofs.ObjectLaws.{same_oid, same_label}
use Rattle.sorted_list.specs.SortedLists.{IsExact}
use Rattle.value_orders.specs.Types.{Oid, Value, Entry, Kind}
use Rattle.value_orders.specs.Kinds.{value_cmp}
use Rattle.value_orders.specs.Held.{held}
use Rattle.value_orders.specs.EntryOrder.{entry_order, AscendByValue, order_total, ValueOrder}

pub first_same : (p q : ℕ) (o : Ordering) → ordering_then (nat_cmp p q) o ≡ Equal → p ≡ q
first_same p q o h = grind (arith, nat_tests)

pub rest_equal : (p o : Ordering) → ordering_then p o ≡ Equal → o ≡ Equal
rest_equal p o h = grind arith

-- entries with the same label and the same object are one
pub same_naming : (a b : Entry) → a.label ≡ b.label → a.object ≡ b.object → a ≡ b
same_naming a b label object = λ i. record { label = label i; object = object i }

-- equal entries are one
pub exact_order : (values : List (Oid × Value)) (kind : Kind) → IsExact (entry_order values kind)
exact_order values kind a b equal =
    let rest = rest_equal (nat_cmp a.label.0 b.label.0) _ equal in
    let label : a.label.0 ≡ b.label.0 = first_same _ _ _ equal in
    let object : a.object.0 ≡ b.object.0 = same_from_cmp _ _ (rest_equal (value_cmp kind (held values a.object) (held values b.object)) _ rest) in
    same_naming a b (ap (λ n. record { 0 = n }) label) (ap (λ n. record { 0 = n }) object)

-- and `==` tells these
abbrev pub same_entry_test : Entry → Entry → Bool
same_entry_test a b = (a.label.0 == b.label.0) && (a.object.0 == b.object.0)

same_tested : (a b : Entry) → same_entry_test a b ≡ true → a ≡ b
same_tested a b h =
    let parts = and_parts (a.label.0 == b.label.0) (a.object.0 == b.object.0) h in
    same_naming a b (same_label a.label b.label parts.0) (same_oid a.object b.object parts.1)

tested_itself : (a : Entry) → same_entry_test a a ≡ true
tested_itself a = and_from (a.label.0 == a.label.0) (a.object.0 == a.object.0) (eqb_itself a.label.0) (eqb_itself a.object.0)

pub order_ties : (values : List (Oid × Value)) (kind : Kind) (a b : Entry) → same_entry_test a b ≡ eq_by_cmp (entry_order values kind) a b
order_ties values kind a b =
    both_ways (same_entry_test a b) (eq_by_cmp (entry_order values kind) a b)
    (λ h. subst (λ (e : Entry). is_eq (entry_order values kind a e) ≡ true) (same_tested a b h) (ap is_eq (tied_itself (order_total values kind) a)))
    (λ h. subst (λ (e : Entry). same_entry_test a e ≡ true) (exact_order values kind a b (Equal-from_test (entry_order values kind a b) h)) (tested_itself a))

pub one_of_ties : (a b : Entry) → same_entry_test a b ≡ true → a ≡ b
one_of_ties = same_tested

-- entries ascend by other values, where their objects have the same there
pub ascend-as : (old new : List (Oid × Value)) (kind : Kind) (entries : List Entry)
    → ((entry : Entry) → Contains entries entry → held new entry.object ≡ held old entry.object) → AscendByValue old kind entries
    → AscendByValue new kind entries
ascend-as old new kind entries same ascend i j d lt len =
    let a = get_or entries i d in
    let b = get_or entries j d in
    let first = same a (Contains-get_or entries i d (omega (arith, lt, len))) in
    let second = same b (Contains-get_or entries j d len) in
    subst (λ (v : Value). ordering_then (nat_cmp a.label.0 b.label.0) (ordering_then (value_cmp kind v (held new b.object)) (nat_cmp a.object.0 b.object.0)) ≡ Less) (sym first)
    (subst (λ (v : Value). ordering_then (nat_cmp a.label.0 b.label.0) (ordering_then (value_cmp kind (held old a.object) v) (nat_cmp a.object.0 b.object.0)) ≡ Less) (sym second)
    (ascend i j d lt len))

-- the same of lists that are seen otherwise
pub ascend-seen : (kind : Kind) (values seen : List (Oid × Value)) (entries list : List Entry) → seen ≡ values → list ≡ entries → AscendByValue values kind entries
    → AscendByValue seen kind list
ascend-seen kind values seen entries list values_are entries_are ascend =
    subst (λ (v : List (Oid × Value)). AscendByValue v kind list) (sym values_are)
    (subst (λ (l : List Entry). AscendByValue values kind l) (sym entries_are) ascend)

-- what stands at a place where a search ended is the entry
pub found-there : (values : List (Oid × Value)) (kind : Kind) (entries : List Entry) (entry : Entry) (place : ℕ) → place < length entries
    → entry_order values kind (get_or entries place entry) entry ≡ Equal → Contains entries entry
found-there values kind entries entry place lt equal = (place, lt, exact_order values kind (get_or entries place entry) entry equal)

-- ---- the order as it is seen

pub as-order : (P : (Entry → Entry → Ordering) → Type 0) (seen : ValueOrder) (values : List (Oid × Value)) (kind : Kind) → seen.values ≡ values → seen.kind ≡ kind
    → P (entry_order seen.values seen.kind) → P (entry_order values kind)
as-order P seen values kind values_are kind_is p =
    subst (λ (k : Kind). P (entry_order values k)) kind_is (subst (λ (v : List (Oid × Value)). P (entry_order v seen.kind)) values_are p)

pub to-order : (P : (Entry → Entry → Ordering) → Type 0) (seen : ValueOrder) (values : List (Oid × Value)) (kind : Kind) → seen.values ≡ values → seen.kind ≡ kind
    → P (entry_order values kind) → P (entry_order seen.values seen.kind)
to-order P seen values kind values_are kind_is p =
    subst (λ (v : List (Oid × Value)). P (entry_order v seen.kind)) (sym values_are) (subst (λ (k : Kind). P (entry_order values k)) (sym kind_is) p)
