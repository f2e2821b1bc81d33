use Rattle.std.proofs.Common.{◌≡◌, ◌+◌, ◌≤◌, length}
use Rattle.std.specs.Prelude.{vec_len, vec_capacity}
use Rattle.value_orders.proofs.HeldLaws.{IsPutSoFar}
use Rattle.value_orders.proofs.held.put_each.Given as goal

abbrev pub invariant-given : goal.invariant-given
invariant-given l = record {
  so_far : IsPutSoFar l.fn.given.items l.object-iterator.rest.items l.fn.values.items l.values.items;
  room : vec_len l.values + length l.object-iterator.rest.items ≤ vec_capacity l.values;
  capacity : vec_capacity l.values ≡ vec_capacity l.fn.values;
}
