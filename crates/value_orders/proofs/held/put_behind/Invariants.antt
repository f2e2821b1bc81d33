use Rattle.std.proofs.Common.{◌≡◌, ◌+◌, ◌≤◌, length}
use Rattle.std.specs.Prelude.{vec_len, vec_capacity}
use Rattle.value_orders.specs.inside.Puts.{IsPutBehind}
use Rattle.value_orders.proofs.held.put_behind.Given as goal

abbrev pub invariant-given : goal.invariant-given
invariant-given l = record {
  so_far : IsPutBehind l.fn.given.items l.object-iterator.rest.items l.fn.values.items l.values.items;
  long : vec_len l.fn.values ≤ vec_len l.values;
  room : vec_len l.values + length l.object-iterator.rest.items ≤ vec_capacity l.values;
  capacity : vec_capacity l.values ≡ vec_capacity l.fn.values;
}
