use Rattle.std.proofs.Common.{ap, arith}
use Rattle.sorted_list.proofs.SingleLaws.{ascend_seen, new_seen, joined_seen}
use Rattle.sorted_list.proofs.ordered_list.OrderedList.put_in.Goals as goal

pub put_in-requires-clause-items : goal.put_in-requires-clause-items
put_in-requires-clause-items g c = ascend_seen (g.O.Order.order_of c.args.order.now) _ _ (ap (λ r. r.items) c.self.view_is) c.requires.ascend

pub put_in-requires-clause-new : goal.put_in-requires-clause-new
put_in-requires-clause-new g c = new_seen _ _ _ (ap (λ r. r.items) c.self.view_is) c.requires.new

pub put_in-requires-clause-room : goal.put_in-requires-clause-room
put_in-requires-clause-room g c = omega (arith, c.requires.room, ap (λ r. r.room) c.self.view_is)

pub returns : goal.returns
returns g c = joined_seen (g.O.Order.order_of c.args.order.now) _ _ _ _ (ap (λ r. r.items) c.self.view_is) c.put_in.ensures.joined
