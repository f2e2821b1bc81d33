use Rattle.std.proofs.Common.{◌≡◌, ◌≤◌, take}
use Rattle.std.specs.Prelude.{vec_len, vec_capacity}
use Rattle.sorted_list.specs.SortedLists.{AreWithout}
use Rattle.sorted_list.proofs.going.take_each.Given as goal

abbrev pub invariant-gone : goal.invariant-gone
invariant-gone g l = record {
  without : AreWithout (g.O.Order.order_of l.order) (take l.item-index l.fn.gone) l.fn.items.items l.items.items;
  few : vec_len l.items ≤ vec_len l.fn.items;
  capacity : vec_capacity l.items ≡ vec_capacity l.fn.items;
}
