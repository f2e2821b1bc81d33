use Rattle.sorted_list.specs.SortedLists.{Ascends, AreJoined}
use Rattle.value_orders.proofs.KeyLaws.{exact_order, as-order, to-order}
use Rattle.value_index.proofs.value_index.put_into.Goals as goal

pub put_in-requires-clause-exact : goal.put_in-requires-clause-exact
put_in-requires-clause-exact c = exact_order _ _

pub put_in-requires-clause-ascend : goal.put_in-requires-clause-ascend
put_in-requires-clause-ascend c =
    to-order (λ o. Ascends o c.args.order.now.items) c.new.result _ _ c.new.ensures.values c.new.ensures.kind c.requires.ascend

pub put_in-requires-clause-come : goal.put_in-requires-clause-come
put_in-requires-clause-come c =
    to-order (λ o. Ascends o c.args.come.items) c.new.result _ _ c.new.ensures.values c.new.ensures.kind c.requires.come

pub returns : goal.returns
returns c =
    as-order (λ o. AreJoined o c.args.order.now.items c.args.come.items c.put_in.new.self.items) c.new.result _ _
    c.new.ensures.values c.new.ensures.kind c.put_in.ensures
