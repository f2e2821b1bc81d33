-- The one list of entries that the orders stand for: which entries it holds, and that they ascend.
use Rattle.std.proofs.Common.{◌≡◌, ◌≢◌, ◌↔◌, inl, inr, Less, List, [], ◌++◌, All, Contains, subst, refl, sym, ap, ◌∙◌, arith}
use Rattle.std.proofs.lemmas.List.Elements.{Contains-append_left, Contains-append_right, Contains-append_cases, All-contains}
use Rattle.lore_base.proofs.ListLaws.{AllPairs-unique}
use Rattle.lore_base.proofs.MemberLaws.{Contains-none}
use Rattle.index_traits.specs.Entries.{AreAscendingEntries, entry_of, entry_cmp}
use Rattle.value_orders.specs.Types.{Oid, Label, Value, Whole, Chars, Flag, Complex, ValueEntry, Entry, Kind, Wholes, Texts, Flags, Readings, FlagReadings}
use Rattle.value_orders.specs.Kinds.{is_of}
use Rattle.value_orders.specs.Held.{held}
use Rattle.value_orders.specs.Entries.{HasOneValueIn}
use Rattle.value_orders.specs.EntryOrder.{AscendByValue}
use Rattle.value_orders.specs.Orders.{Orders, orders_of, order_at, entries_at, AreOrders, value_entries, in_order, AreSortedOrders}
use Rattle.value_orders.proofs.KindLaws.{of_atomic}
use Rattle.value_orders.proofs.HeldLaws.{held-member}
use Rattle.value_orders.proofs.EntryLaws.{same_label, same_object, same_entry, in-with, new-with, ascend-with, ascend-none, less_once, one_own}

-- what holds of each kind
pub each_kind : (P : Kind → Type 0) → P Wholes → P Texts → P Flags → P Readings → P FlagReadings → (kind : Kind) → P kind
each_kind P wholes texts flags readings flag_readings Wholes = wholes
each_kind P wholes texts flags readings flag_readings Texts = texts
each_kind P wholes texts flags readings flag_readings Flags = flags
each_kind P wholes texts flags readings flag_readings Readings = readings
each_kind P wholes texts flags readings flag_readings FlagReadings = flag_readings

-- one part after another
by_parts : (orders : Orders) (entry : ValueEntry) (P : Type 0) → (Contains (entries_at orders Wholes) entry → P)
    → (Contains (entries_at orders Texts) entry → P) → (Contains (entries_at orders Flags) entry → P)
    → Contains (value_entries orders) entry → P
by_parts orders entry P whole text flag at =
    elim (Contains-append_cases (entries_at orders Wholes) (entries_at orders Texts ++ entries_at orders Flags) entry at) [
      | inl first ↦ whole first
      | inr rest ↦ elim (Contains-append_cases (entries_at orders Texts) (entries_at orders Flags) entry rest) [
        | inl second ↦ text second
        | inr third ↦ flag third
      ]
    ]

module _ (orders : Orders) where
  pub ascend-in_order : AreAscendingEntries (in_order orders)
  ascend-in_order = ascend-with [] (value_entries orders) ascend-none

  listed-from : (entry : ValueEntry) → Contains (in_order orders) entry → Contains (value_entries orders) entry
  listed-from entry at = elim (in-with [] (value_entries orders) entry at) [ inl none ↦ absurd (Contains-none entry none) | inr there ↦ there ]

  -- an entry stands in the order of some kind
  pub of_some : (entry : ValueEntry) → Contains (in_order orders) entry → (kind : Kind) × Contains (entries_at orders kind) entry
  of_some entry at =
      by_parts orders entry ((kind : Kind) × Contains (entries_at orders kind) entry) (λ there. (Wholes, there)) (λ there. (Texts, there))
      (λ there. (Flags, there)) (listed-from entry at)

module _ (IsEntry : ValueEntry → Type 0) (orders : Orders) (are : AreOrders IsEntry orders) where
  module _ (atomic : (entry : ValueEntry) → IsEntry entry → entry.value ≢ Complex)
      (single : (a b : ValueEntry) → IsEntry a → IsEntry b → a.label ≡ b.label → a.object ≡ b.object → a.value ≡ b.value) where
    values-from : (entry : ValueEntry) → Contains (value_entries orders) entry → IsEntry entry
    values-from entry at =
        by_parts orders entry (IsEntry entry) (λ there. ((are.listed Wholes entry).0 there).0) (λ there. ((are.listed Texts entry).0 there).0)
        (λ there. ((are.listed Flags entry).0 there).0) at

    values-to : (entry : ValueEntry) → IsEntry entry → Contains (value_entries orders) entry
    values-to entry is =
        let wholes = entries_at orders Wholes in
        let chars = entries_at orders Texts in
        let flags = entries_at orders Flags in
        elim entry.value as (λ (v : Value). entry.value ≡ v → Contains (value_entries orders) entry) [
          | Whole number ↦ λ value_is. Contains-append_left wholes (chars ++ flags) entry ((are.listed Wholes entry).1 (is, ap (is_of Wholes) value_is))
          | Chars text ↦ λ value_is. Contains-append_right wholes (chars ++ flags) entry (Contains-append_left chars flags entry
              ((are.listed Texts entry).1 (is, ap (is_of Texts) value_is)))
          | Flag flag ↦ λ value_is. Contains-append_right wholes (chars ++ flags) entry (Contains-append_right chars flags entry
              ((are.listed Flags entry).1 (is, ap (is_of Flags) value_is)))
          | Complex ↦ λ value_is. absurd (atomic entry is value_is)
        ] refl

    -- the list holds exactly the entries that the orders list
    pub in_order-exact : (entry : ValueEntry) → Contains (in_order orders) entry ↔ IsEntry entry
    in_order-exact entry = (
      λ at. values-from entry (listed-from orders entry at),
      λ is. new-with [] (value_entries orders) entry (λ other either equal. elim either [
        | inl none ↦ absurd (Contains-none other none)
        | inr there ↦ (
            let other_is = values-from other there in
            let label = sym (same_label entry other equal) in
            let object = sym (same_object entry other equal) in
            same_entry other entry label (single other entry other_is is label object) object)
      ]) (values-to entry is),
    )

-- orders of other entries that are the same
pub orders-like : (E F : ValueEntry → Type 0) → ((entry : ValueEntry) → E entry ↔ F entry) → (orders : Orders) → AreOrders E orders → AreOrders F orders
orders-like E F same orders are = record {
  listed = λ kind entry. (
    λ at. (let own = (are.listed kind entry).0 at in ((same entry).0 own.0, own.1)),
    λ both. (are.listed kind entry).1 ((same entry).1 both.0, both.1),
  );
  values = record {
    only = λ object at. (let own = are.values.only object at in (own.0, (same (entry_of own.0 object.1 object.0)).0 own.1));
    all = λ entry is. are.values.all entry ((same entry).1 is);
  };
}

-- Of orders that stand for their own list.
module _ (orders : Orders) (sorted : AreSortedOrders orders) where
  -- what they hold is atomic
  pub atomic-in_order : (entry : ValueEntry) → Contains (in_order orders) entry → entry.value ≢ Complex
  atomic-in_order entry at =
      let some = of_some orders entry at in
      of_atomic some.0 entry.value ((sorted.are.listed some.0 entry).0 some.1).1

  -- and has the value of its object
  pub value-in_order : (entry : ValueEntry) → Contains (in_order orders) entry → held orders.values entry.object ≡ entry.value
  value-in_order entry at = held-member orders.values sorted.objects_ascend entry.object entry.value (sorted.are.values.all entry at)

  pub one-in_order : HasOneValueIn (Contains (in_order orders))
  one-in_order a b first second object =
      sym (value-in_order a first) ∙ ap (held orders.values) object ∙ value-in_order b second

  -- each ascends
  pub kind-ascends : (kind : Kind) → AscendByValue orders.values kind (order_at orders kind)
  kind-ascends Wholes = sorted.wholes_ascend
  kind-ascends Texts = sorted.chars_ascend
  kind-ascends Flags = sorted.flags_ascend
  kind-ascends Readings = sorted.readings_ascend
  kind-ascends FlagReadings = sorted.flag_readings_ascend

-- the orders of no entries
pub none-sorted : AreSortedOrders (orders_of [] [] [] [] [] [])
none-sorted = record {
  objects_ascend = λ i j d lt len. absurd (omega (arith, len));
  wholes_ascend = λ i j d lt len. absurd (omega (arith, len));
  chars_ascend = λ i j d lt len. absurd (omega (arith, len));
  flags_ascend = λ i j d lt len. absurd (omega (arith, len));
  readings_ascend = λ i j d lt len. absurd (omega (arith, len));
  flag_readings_ascend = λ i j d lt len. absurd (omega (arith, len));
  are = record {
    listed = λ kind entry. (λ at. absurd (none-listed kind entry at), λ both. absurd (Contains-none entry both.0));
    values = record {
      only = λ object at. absurd (Contains-none object at);
      all = λ entry at. absurd (Contains-none entry at);
    };
  };
}
  where
    none-listed : (kind : Kind) (entry : ValueEntry) → Contains (entries_at (orders_of [] [] [] [] [] []) kind) entry → ⊥
    none-listed Wholes entry at = Contains-none entry at
    none-listed Texts entry at = Contains-none entry at
    none-listed Flags entry at = Contains-none entry at
    none-listed Readings entry at = Contains-none entry at
    none-listed FlagReadings entry at = Contains-none entry at

-- what holds of these holds of empty lists that are seen otherwise
pub none-seen : (P : Orders → Type 0) → P (orders_of [] [] [] [] [] []) → (values : List (Oid × Value)) (wholes chars flags readings flag_readings : List Entry)
    → values ≡ [] → wholes ≡ [] → chars ≡ [] → flags ≡ [] → readings ≡ [] → flag_readings ≡ [] → P (orders_of values wholes chars flags readings flag_readings)
none-seen P p values wholes chars flags readings flag_readings no_values no_wholes no_chars no_flags no_readings no_flag_readings =
    subst (λ (l : List (Oid × Value)). P (orders_of l wholes chars flags readings flag_readings)) (sym no_values)
    (subst (λ (l : List Entry). P (orders_of [] l chars flags readings flag_readings)) (sym no_wholes)
    (subst (λ (l : List Entry). P (orders_of [] [] l flags readings flag_readings)) (sym no_chars)
    (subst (λ (l : List Entry). P (orders_of [] [] [] l readings flag_readings)) (sym no_flags)
    (subst (λ (l : List Entry). P (orders_of [] [] [] [] l flag_readings)) (sym no_readings)
    (subst (λ (l : List Entry). P (orders_of [] [] [] [] [] l)) (sym no_flag_readings) p)))))

-- Entries that were put into orders.
module _ (entries : List ValueEntry) (ascend : AreAscendingEntries entries) (atomic : All (λ entry. entry.value ≢ Complex) entries)
    (orders : Orders) (are : AreOrders (Contains entries) orders) where
  put-single : (a b : ValueEntry) → Contains entries a → Contains entries b → a.label ≡ b.label → a.object ≡ b.object → a.value ≡ b.value
  put-single a b first second label object =
      one_own entries ascend a.label a.object a.value b.value first
      (subst (λ (o : Oid). Contains entries (entry_of a.label b.value o)) (sym object)
      (subst (λ (l : Label). Contains entries (entry_of l b.value b.object)) (sym label) second))

  put-exact : (entry : ValueEntry) → Contains (in_order orders) entry ↔ Contains entries entry
  put-exact = in_order-exact (Contains entries) orders are (λ entry at. All-contains (λ e. e.value ≢ Complex) entries entry atomic at) put-single

  -- the orders stand for them
  pub put-same : in_order orders ≡ entries
  put-same = AllPairs-unique (λ a b. entry_cmp a b ≡ Less) less_once (in_order orders) entries (ascend-in_order orders) ascend put-exact

  pub put-orders : AreOrders (Contains (in_order orders)) orders
  put-orders = orders-like (Contains entries) (Contains (in_order orders)) (λ entry. ((put-exact entry).1, (put-exact entry).0)) orders are
