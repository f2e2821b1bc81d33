-- The values of objects, the five orders of entries that name the objects, and the one list of entries that they
-- stand for.
use Rattle.std.specs.Prelude.{◌≡◌, ◌↔◌, true, List, [], ◌∷◌, ◌++◌, map, Contains}
use Rattle.std.specs.BTreeSet.{insert_key}
use Rattle.index_traits.specs.Entries.{entry_cmp}
use Rattle.value_orders.specs.Types.{Oid, Value, ValueEntry, Entry, Kind, Wholes, Texts, Flags, Readings, FlagReadings}
use Rattle.value_orders.specs.Kinds.{is_of}
use Rattle.value_orders.specs.Held.{AscendByObject}
use Rattle.value_orders.specs.Entries.{entry_in, AreHeldIn}
use Rattle.value_orders.specs.EntryOrder.{AscendByValue}

-- objects with their values, and entries that name them: of whole numbers, of texts, of flags, and of texts that read
-- as whole numbers or as flags
pub record Orders : Type 0 where
  pub values : List (Oid × Value)
  pub wholes : List Entry
  pub chars : List Entry
  pub flags : List Entry
  pub readings : List Entry
  pub flag_readings : List Entry

abbrev pub orders_of : List (Oid × Value) → List Entry → List Entry → List Entry → List Entry → List Entry → Orders
orders_of values wholes chars flags readings flag_readings = record {
  values = values;
  wholes = wholes;
  chars = chars;
  flags = flags;
  readings = readings;
  flag_readings = flag_readings;
}

-- the order of a kind
abbrev pub order_at : Orders → Kind → List Entry
order_at orders Wholes = orders.wholes
order_at orders Texts = orders.chars
order_at orders Flags = orders.flags
order_at orders Readings = orders.readings
order_at orders FlagReadings = orders.flag_readings

-- its entries with their values
abbrev pub entries_at : Orders → Kind → List ValueEntry
entries_at orders kind = map (entry_in orders.values) (order_at orders kind)

-- each order holds those of the entries whose values are of its kind, and the values are those of their objects
pub record AreOrders (IsEntry : ValueEntry → Type 0) (orders : Orders) : Type 0 where
  pub listed : (kind : Kind) (entry : ValueEntry)
      → Contains (entries_at orders kind) entry ↔ (IsEntry entry × (is_of kind entry.value ≡ true))
  pub values : AreHeldIn IsEntry orders.values

-- entries put at their places among others
abbrev pub with_entries : List ValueEntry → List ValueEntry → List ValueEntry
with_entries entries [] = entries
with_entries entries (entry ∷ others) = with_entries (insert_key entry_cmp entries entry) others

-- the entries of whole numbers, texts and flags
abbrev pub value_entries : Orders → List ValueEntry
value_entries orders = entries_at orders Wholes ++ (entries_at orders Texts ++ entries_at orders Flags)

-- the same in the order of label and object
abbrev pub in_order : Orders → List ValueEntry
in_order orders = with_entries [] (value_entries orders)

-- orders of the entries that they stand for, each of which ascends
pub record AreSortedOrders (orders : Orders) : Type 0 where
  pub objects_ascend : AscendByObject orders.values
  pub wholes_ascend : AscendByValue orders.values Wholes orders.wholes
  pub chars_ascend : AscendByValue orders.values Texts orders.chars
  pub flags_ascend : AscendByValue orders.values Flags orders.flags
  pub readings_ascend : AscendByValue orders.values Readings orders.readings
  pub flag_readings_ascend : AscendByValue orders.values FlagReadings orders.flag_readings
  pub are : AreOrders (Contains (in_order orders)) orders
