use Rattle.std.proofs.Common.{ap, arith}
use Rattle.sorted_list.proofs.SingleLaws.{ascend_seen, without_seen}
use Rattle.sorted_list.proofs.ordered_list.OrderedList.take_out.Goals as goal

pub take_out-requires-clause-ascend : goal.take_out-requires-clause-ascend
take_out-requires-clause-ascend g c = ascend_seen (g.O.Order.order_of c.args.order.now) _ _ (ap (λ r. r.items) c.self.view_is) c.requires.ascend

pub returns-clause-without : goal.returns-clause-without
returns-clause-without g c = without_seen (g.O.Order.order_of c.args.order.now) _ _ _ _ (ap (λ r. r.items) c.self.view_is) c.take_out.ensures.without

pub returns-clause-room : goal.returns-clause-room
returns-clause-room g c = omega (arith, c.take_out.ensures.few, c.take_out.ensures.capacity, ap (λ r. r.room) c.self.view_is)
