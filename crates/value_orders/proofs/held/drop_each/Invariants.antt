use Rattle.std.proofs.Common.{◌≡◌, ◌≤◌, take}
use Rattle.std.specs.Prelude.{vec_len, vec_capacity}
use Rattle.value_orders.specs.Held.{less_objects}
use Rattle.value_orders.proofs.held.drop_each.Given as goal

abbrev pub invariant-leaving : goal.invariant-leaving
invariant-leaving l = record {
  less : l.values.items ≡ less_objects (take l.object-index l.fn.leaving) l.fn.values.items;
  few : vec_len l.values ≤ vec_len l.fn.values;
  capacity : vec_capacity l.values ≡ vec_capacity l.fn.values;
}
