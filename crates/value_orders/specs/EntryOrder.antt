-- The order of entries by label, value and object, where the values are looked up.
use Rattle.std.specs.Prelude.{List}
use Rattle.std.specs.Ordering.{nat_cmp, ordering_then}
use Rattle.std.specs.Cmp.{IsTotalOrder, bool_cmp_total}
use Rattle.std.specs.Cmp.Lexicographic.{options_total, nat_list_cmp_total}
use Rattle.std.specs.declared.cmp.Ordering.{Ordering}
use Rattle.std.proofs.lemmas.Cmp.{nat_cmp_total, int_cmp_total, on_total, then_total}
use Rattle.sorted_list.specs.SortedLists.{Ascends}
use Rattle.value_orders.specs.Types.{Oid, Value, Entry, Kind, Wholes, Texts, Flags, Readings, FlagReadings}
use Rattle.value_orders.specs.Kinds.{number_in, text_in, flag_in, value_cmp}
use Rattle.value_orders.specs.Held.{held, object_cmp}

abbrev pub entry_order : List (Oid × Value) → Kind → Entry → Entry → Ordering
entry_order values kind a b =
    ordering_then (nat_cmp a.label.0 b.label.0)
    (ordering_then (value_cmp kind (held values a.object) (held values b.object)) (nat_cmp a.object.0 b.object.0))

abbrev pub AscendByValue : List (Oid × Value) → Kind → List Entry → Type 0
AscendByValue values kind entries = Ascends (entry_order values kind) entries

-- The orders are total.

pub object_total : IsTotalOrder object_cmp
object_total = on_total (λ (object : Oid × Value). object.0.0) nat_cmp_total

pub value_total : (kind : Kind) → IsTotalOrder (value_cmp kind)
value_total Wholes = on_total number_in (options_total int_cmp_total)
value_total Texts = on_total text_in (options_total nat_list_cmp_total)
value_total Flags = on_total flag_in (options_total bool_cmp_total)
value_total Readings = on_total number_in (options_total int_cmp_total)
value_total FlagReadings = on_total flag_in (options_total bool_cmp_total)

pub order_total : (values : List (Oid × Value)) (kind : Kind) → IsTotalOrder (entry_order values kind)
order_total values kind =
    then_total (on_total (λ (e : Entry). e.label.0) nat_cmp_total)
    (then_total (on_total (λ (e : Entry). held values e.object) (value_total kind))
    (on_total (λ (e : Entry). e.object.0) nat_cmp_total))

-- the values by which entries of a kind stand in their order
pub record ValueOrder : Type 0 where
  pub values : List (Oid × Value)
  pub kind : Kind
