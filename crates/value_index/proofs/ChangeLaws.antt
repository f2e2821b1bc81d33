-- What becomes of values and orders, and of the list of entries that they stand for, where entries go and come.
use Rattle.std.proofs.Common.{◌≡◌, ◌≢◌, ◌↔◌, ◌⊎◌, ◌<◌, ◌^◌, ◌||◌, inl, inr, Bool, true, false, not, Less, Equal, List, length, All, Contains, subst, refl, sym, ap, ◌∙◌}
use Rattle.std.proofs.lemmas.Bool.{true≢false, false_from_ne_true, or_right}
use Rattle.std.proofs.lemmas.Cmp.{tied_itself}
use Rattle.std.proofs.lemmas.List.Elements.{All-contains}
use Rattle.std.proofs.lemmas.List.Kept.{AllPairs-filter}
use Rattle.list_laws.proofs.MemberLaws.{All-from_members, Contains-map, Contains-from_map}
use Rattle.lore_base.specs.Databases.{IsLive}
use Rattle.lore_base.proofs.MemberLaws.{Contains-same, Contains-filter, unfiltered}
use Rattle.index_traits.specs.Entries.{AreAscendingEntries, entry_of, entry_cmp}
use Rattle.index_traits.proofs.ObjectLaws.{told_live, entry_cmp_total}
use Rattle.sorted_list.specs.SortedLists.{IsThen, IsLessWith}
use Rattle.value_index.specs.Types.{Oid, Label, Value, Whole, Chars, Flag, Complex, ValueEntry, Entry, Kind}
use Rattle.value_index.specs.Values.{FitsEntries}
use Rattle.value_orders.specs.Kinds.{is_of, own_kind}
use Rattle.value_orders.specs.Held.{object_cmp, AscendByObject, held, has_value, ArePut, less_objects}
use Rattle.value_orders.specs.Entries.{entry_in, held_of, AreHeldIn}
use Rattle.value_orders.specs.inside.Naming.{naming}
use Rattle.value_index.specs.inside.Leaving.{names, own_entries, is_staying, leaving_of}
use Rattle.value_orders.specs.Orders.{Orders, orders_of, order_at, entries_at, AreOrders, in_order}
use Rattle.value_orders.proofs.KindLaws.{own_of}
use Rattle.value_orders.proofs.KeyLaws.{same_naming}
use Rattle.value_orders.proofs.HeldLaws.{held-member, has-live, one_object, less-kept, less-from}
use Rattle.value_index.proofs.NameLaws.{names-from, names-to}
use Rattle.value_orders.proofs.EntryLaws.{same_of_equal}
use Rattle.value_orders.proofs.OrderLaws.{ascend-in_order, in_order-exact, orders-like}

-- an entry that has one value by both lists
entry-as : (old new : List (Oid × Value)) (entry : Entry) → held new entry.object ≡ held old entry.object → entry_in new entry ≡ entry_in old entry
entry-as old new entry same = λ i. record { label = entry.label; value = same i; object = entry.object }

-- the order in which the entries of an object stand that has the value
own-order : (orders : Orders) (value : Value) → (value ≡ Complex → ⊥)
    → order_at orders (own_kind value) ≡ own_entries orders.wholes orders.chars orders.flags value
own-order orders (Whole number) atomic = refl
own-order orders (Chars text) atomic = refl
own-order orders (Flag flag) atomic = refl
own-order orders Complex atomic = absurd (atomic refl)

told_true : (b : Bool) → (b ≡ false → ⊥) → b ≡ true
told_true true other = refl
told_true false other = absurd (other refl)

-- those that leave ascend
pub leaving-ascends : (come : List (Oid × Value)) (wholes texts flags : List Entry) (gone : List (Oid × Value)) → AscendByObject gone
    → AscendByObject (leaving_of come wholes texts flags gone)
leaving-ascends come wholes texts flags gone ascend =
    AllPairs-filter (λ (a b : Oid × Value). object_cmp a b ≡ Less) (λ object. not (is_staying come wholes texts flags object)) gone ascend

-- ---- entries go

module _ (kept gone : List ValueEntry) (ascend : AreAscendingEntries kept) (inside : All (Contains kept) gone) (old going : Orders)
    (olds : AreOrders (Contains kept) old) (goings : AreOrders (Contains gone) going) (left : Orders)
    (less : (kind : Kind) (entry : Entry) → Contains (order_at left kind) entry ↔ (Contains (order_at old kind) entry × (Contains (order_at going kind) entry → ⊥))) where
  -- what is left is kept and doesn't go
  left-from : (kind : Kind) (entry : Entry) → Contains (order_at left kind) entry
      → Contains kept (entry_in old.values entry) × ((Contains gone (entry_in old.values entry) → ⊥) × (is_of kind (held old.values entry.object) ≡ true))
  left-from kind entry at =
      let both = (less kind entry).0 at in
      let whole = entry_in old.values entry in
      let there = (olds.listed kind whole).0 (Contains-map (entry_in old.values) (order_at old kind) entry both.0) in (
        there.0,
        (
          λ leaves. (
              let other = Contains-from_map (entry_in going.values) (order_at going kind) whole ((goings.listed kind whole).1 (leaves, there.1)) in
              let same = same_naming other.0 entry (ap (λ (e : ValueEntry). e.label) other.2) (ap (λ (e : ValueEntry). e.object) other.2) in
              both.1 (Contains-same (order_at going kind) other.0 entry same other.1)),
          there.1,
        ),
      )

  -- and all of that is left
  left-to : (kind : Kind) (whole : ValueEntry) → Contains kept whole → (Contains gone whole → ⊥) → is_of kind whole.value ≡ true
      → (entry : Entry) × Contains (order_at left kind) entry × (entry_in old.values entry ≡ whole)
  left-to kind whole at stays of =
      let from = Contains-from_map (entry_in old.values) (order_at old kind) whole ((olds.listed kind whole).1 (at, of)) in
      let entry = from.0 in (
        entry,
        (less kind entry).1 (
          from.1,
          λ leaves. (
              let other = entry_in going.values entry in
              let own = (goings.listed kind other).0 (Contains-map (entry_in going.values) (order_at going kind) entry leaves) in
              let there = All-contains (λ e. Contains kept e) gone other inside own.0 in
              let equal : entry_cmp other whole ≡ Equal = subst (λ (e : ValueEntry). entry_cmp other e ≡ Equal) from.2 (tied_itself entry_cmp_total other) in
              stays (subst (λ (e : ValueEntry). Contains gone e) (same_of_equal kept ascend other whole there at equal) own.0)),
        ),
        from.2,
      )

  -- ---- entries and values come
  module _ (come : List ValueEntry) (fits : FitsEntries kept gone come) (atomic : (entry : ValueEntry) → Contains kept entry → entry.value ≢ Complex)
      (coming : Orders) (comings : AreOrders (Contains come) coming) (old_objects : AscendByObject old.values) (going_objects : AscendByObject going.values)
      (coming_objects : AscendByObject coming.values) where
    abbrev leaving : List (Oid × Value)
    leaving = leaving_of coming.values left.wholes left.chars left.flags going.values

    pub leaving-ascend : AscendByObject leaving
    leaving-ascend = leaving-ascends coming.values left.wholes left.chars left.flags going.values going_objects

    -- the value of an object that goes is the one that is kept
    going-value : (oid : Oid) (value : Value) → Contains going.values (oid, value) → Contains old.values (oid, value)
    going-value oid value at =
        let own = goings.values.only (oid, value) at in
        olds.values.all (entry_of own.0 value oid) (All-contains (λ e. Contains kept e) gone (entry_of own.0 value oid) inside own.1)

    kept-value : (entry : ValueEntry) → Contains kept entry → held old.values entry.object ≡ entry.value
    kept-value entry at = held-member old.values old_objects entry.object entry.value (olds.values.all entry at)

    -- an entry that is kept and doesn't go is left among the entries of its object's value
    own-left : (entry : ValueEntry) → Contains kept entry → (Contains gone entry → ⊥) → names (own_entries left.wholes left.chars left.flags entry.value) entry.object ≡ true
    own-left entry at stays =
        let rest = atomic entry at in
        let found = left-to (own_kind entry.value) entry at stays (own_of entry.value rest) in
        let own = names-to (order_at left (own_kind entry.value)) found.0 found.1 in
        subst (λ (o : Oid). names (own_entries left.wholes left.chars left.flags entry.value) o ≡ true) (ap (λ (e : ValueEntry). e.object) found.2)
        (subst (λ (l : List Entry). names l found.0.object ≡ true) (own-order left entry.value rest) own)

    -- so that its object stays
    stays-alive : (entry : ValueEntry) → Contains kept entry → (Contains gone entry → ⊥) → IsLive leaving entry.object → ⊥
    stays-alive entry at stays live =
        let passed = unfiltered (λ (o : Oid × Value). not (is_staying coming.values left.wholes left.chars left.flags o)) going.values (entry.object, live.0) live.1 in
        let same : live.0 ≡ entry.value = sym (held-member old.values old_objects entry.object live.0 (going-value entry.object live.0 passed.0)) ∙ kept-value entry at in
        let named : names (own_entries left.wholes left.chars left.flags live.0) entry.object ≡ true
        = subst (λ (v : Value). names (own_entries left.wholes left.chars left.flags v) entry.object ≡ true) (sym same) (own-left entry at stays) in
        let staying = or_right (has_value coming.values entry.object) (names (own_entries left.wholes left.chars left.flags live.0) entry.object) named in
        true≢false (sym passed.1 ∙ ap not staying)

    module _ (now : List (Oid × Value)) (put : ArePut coming.values (less_objects leaving old.values) now) where
      -- objects have the values that come
      come-value : (object : Oid × Value) → Contains coming.values object → held now object.0 ≡ object.1
      come-value object at = held-member now put.ascend object.0 object.1 ((put.members object).1 (inl at))

      pub comes-as : (kind : Kind) (entry : Entry) → Contains (order_at coming kind) entry → held now entry.object ≡ held coming.values entry.object
      comes-as kind entry at =
          let whole = entry_in coming.values entry in
          let own = (comings.listed kind whole).0 (Contains-map (entry_in coming.values) (order_at coming kind) entry at) in
          come-value (held_of whole) (comings.values.all whole own.0)

      -- or those that they have where an entry stays
      stays-value : (entry : ValueEntry) → Contains kept entry → (Contains gone entry → ⊥) → Contains now (held_of entry)
      stays-value entry at stays = elim (told_live coming.values entry.object) [
        | inl live ↦ (
            let own = comings.values.only (entry.object, live.0) live.1 in
            let same : live.0 ≡ entry.value = fits.one_value (entry_of own.0 live.0 entry.object) entry (inl own.1) (inr (at, stays)) refl in
            (put.members (held_of entry)).1 (inl (subst (λ (v : Value). Contains coming.values (entry.object, v)) same live.1)))
        | inr none ↦
            (put.members (held_of entry)).1 (inr (less-kept leaving old.values (held_of entry) (olds.values.all entry at) (stays-alive entry at stays), none))
      ]

      pub stays-as : (kind : Kind) (entry : Entry) → Contains (order_at left kind) entry → held now entry.object ≡ held old.values entry.object
      stays-as kind entry at =
          let from = left-from kind entry at in
          held-member now put.ascend entry.object (held old.values entry.object) (stays-value (entry_in old.values entry) from.0 from.1.0)

      -- what comes is not left
      pub comes-new : (kind : Kind) (entry : Entry) → Contains (order_at coming kind) entry → Contains (order_at left kind) entry → ⊥
      comes-new kind entry comes stays =
          let new = entry_in coming.values entry in
          let whole = entry_in old.values entry in
          let own = (comings.listed kind new).0 (Contains-map (entry_in coming.values) (order_at coming kind) entry comes) in
          let from = left-from kind entry stays in
          let value : new.value ≡ whole.value = fits.one_value new whole (inl own.0) (inr (from.0, from.1.0)) refl in
          let same : new ≡ whole = (λ i. record { label = entry.label; value = value i; object = entry.object }) in
          All-contains (λ e. ¬ (Contains kept e × (¬ Contains gone e))) come new fits.change.new_ones own.0
          (subst (λ (e : ValueEntry). Contains kept e × (¬ Contains gone e)) (sym same) (from.0, from.1.0))

      pub all-new : (kind : Kind) → All (λ entry. Contains (order_at left kind) entry → ⊥) (order_at coming kind)
      all-new kind = All-from_members (λ entry. Contains (order_at left kind) entry → ⊥) (order_at coming kind) (comes-new kind)

      -- ---- the orders then
      module _ (wholes chars flags readings flag_readings : List Entry)
          (joined : (kind : Kind) (entry : Entry) → Contains (order_at (orders_of now wholes chars flags readings flag_readings) kind) entry
          ↔ (Contains (order_at left kind) entry ⊎ Contains (order_at coming kind) entry)) where
        abbrev after : Orders
        after = orders_of now wholes chars flags readings flag_readings

        then-from : (kind : Kind) (whole : ValueEntry) → Contains (entries_at after kind) whole → IsThen kept gone come whole × (is_of kind whole.value ≡ true)
        then-from kind whole at =
            let from = Contains-from_map (entry_in now) (order_at after kind) whole at in
            let entry = from.0 in
            elim ((joined kind entry).0 from.1) [
              | inl stays ↦ (
                  let own = left-from kind entry stays in
                  let same : entry_in old.values entry ≡ whole = sym (entry-as old.values now entry (stays-as kind entry stays)) ∙ from.2 in
                  let both = subst (λ (e : ValueEntry). Contains kept e × (¬ Contains gone e)) same (own.0, own.1.0) in
                  (inr both, subst (λ (e : ValueEntry). is_of kind e.value ≡ true) same own.1.1))
              | inr comes ↦ (
                  let same : entry_in coming.values entry ≡ whole = sym (entry-as coming.values now entry (comes-as kind entry comes)) ∙ from.2 in
                  let own = (comings.listed kind (entry_in coming.values entry)).0 (Contains-map (entry_in coming.values) (order_at coming kind) entry comes) in
                  (inl (subst (λ (e : ValueEntry). Contains come e) same own.0), subst (λ (e : ValueEntry). is_of kind e.value ≡ true) same own.1))
            ]

        then-to : (kind : Kind) (whole : ValueEntry) → IsThen kept gone come whole → is_of kind whole.value ≡ true → Contains (entries_at after kind) whole
        then-to kind whole is of = elim is [
          | inl comes ↦ (
              let from = Contains-from_map (entry_in coming.values) (order_at coming kind) whole ((comings.listed kind whole).1 (comes, of)) in
              let entry = from.0 in
              Contains-same (entries_at after kind) (entry_in now entry) whole (entry-as coming.values now entry (comes-as kind entry from.1) ∙ from.2)
              (Contains-map (entry_in now) (order_at after kind) entry ((joined kind entry).1 (inr from.1))))
          | inr stays ↦ (
              let from = left-to kind whole stays.0 stays.1 of in
              let entry = from.0 in
              Contains-same (entries_at after kind) (entry_in now entry) whole (entry-as old.values now entry (stays-as kind entry from.1) ∙ from.2)
              (Contains-map (entry_in now) (order_at after kind) entry ((joined kind entry).1 (inl from.1))))
        ]

        -- an object that goes and isn't left has no value then
        still-named : (object : Oid × Value) → Contains old.values object → (IsLive coming.values object.0 → ⊥) → (IsLive leaving object.0 → ⊥) → Contains going.values object
            → (label : Label) × IsThen kept gone come (entry_of label object.1 object.0)
        still-named object at none stays goes =
            let first = olds.values.only object at in
            let rest = atomic (entry_of first.0 object.1 object.0) first.1 in
            let own = own_entries left.wholes left.chars left.flags object.1 in
            let test = is_staying coming.values left.wholes left.chars left.flags object in
            let unnamed : names own object.0 ≡ false → ⊥
            = λ no. stays (
              object.1,
              Contains-filter (λ (o : Oid × Value). not (is_staying coming.values left.wholes left.chars left.flags o)) going.values object goes
                  (let absent : has_value coming.values object.0 ≡ false = false_from_ne_true (has_value coming.values object.0) (λ has. none (has-live coming.values object.0 has)) in
                  ap not (ap (λ (b : Bool). b || names own object.0) absent ∙ no)),
            ) in
            let found = names-from own object.0 (told_true (names own object.0) unnamed) in
            let entry = naming found.0 object.0 in
            let there : Contains (order_at left (own_kind object.1)) entry = subst (λ (l : List Entry). Contains l entry) (sym (own-order left object.1 rest)) found.1 in
            let from = left-from (own_kind object.1) entry there in
            let same : entry_in old.values entry ≡ entry_of found.0 object.1 object.0
            = (let value = held-member old.values old_objects object.0 object.1 at in λ i. record { label = found.0; value = value i; object = object.0 }) in
            (found.0, inr (subst (λ (e : ValueEntry). Contains kept e × (¬ Contains gone e)) same (from.0, from.1.0)))

        then-held : AreHeldIn (IsThen kept gone come) now
        then-held = record {
          only = λ object at. elim ((put.members object).0 at) [
            | inl comes ↦ (let own = comings.values.only object comes in (own.0, inl own.1))
            | inr both ↦ (
                let kept_too = less-from leaving old.values leaving-ascend object both.0 in
                let own = olds.values.only object kept_too.0 in
                elim (told_live going.values object.0) [
                  | inl live ↦ (
                      let same : object ≡ (object.0, live.0)
                      = one_object old.values old_objects object (object.0, live.0) kept_too.0 (going-value object.0 live.0 live.1) refl in
                      still-named object kept_too.0 both.1 kept_too.1 (subst (λ (o : Oid × Value). Contains going.values o) (sym same) live.1))
                  | inr none ↦ (
                    own.0,
                    inr (own.1, λ leaves. none (object.1, goings.values.all (entry_of own.0 object.1 object.0) leaves)),
                  )
                ])
          ];
          all = λ entry is. elim is [
            | inl comes ↦ (put.members (held_of entry)).1 (inl (comings.values.all entry comes))
            | inr stays ↦ stays-value entry stays.0 stays.1
          ];
        }

        then_atomic : (entry : ValueEntry) → IsThen kept gone come entry → entry.value ≢ Complex
        then_atomic entry either = elim either [
          | inl new ↦ All-contains (λ e. e.value ≢ Complex) come entry fits.atomic new
          | inr stays ↦ atomic entry stays.0
        ]

        then-orders : AreOrders (IsThen kept gone come) after
        then-orders = record {
          listed = λ kind whole. (then-from kind whole, λ both. then-to kind whole both.0 both.1);
          values = then-held;
        }

        pub orders-less : IsLessWith kept gone come (in_order after)
        orders-less = in_order-exact (IsThen kept gone come) after then-orders then_atomic (λ a b first second label object. fits.one_value a b first second object)

        pub orders-are : AreOrders (Contains (in_order after)) after
        orders-are = orders-like (IsThen kept gone come) (Contains (in_order after)) (λ entry. ((orders-less entry).1, (orders-less entry).0)) after then-orders

        pub orders-few : length (in_order after) < 2 ^ 32
        orders-few = fits.few (in_order after) (ascend-in_order after) orders-less
