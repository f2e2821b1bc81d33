use Rattle.std.proofs.Common.{List, subst, sym, ap, ◌∙◌}
use Rattle.sorted_list.specs.SortedLists.{Ascends, AreWithout}
use Rattle.value_index.specs.Types.{Entry}
use Rattle.value_orders.specs.EntryOrder.{entry_order}
use Rattle.value_orders.specs.Orders.{Orders, order_at}
use Rattle.value_orders.proofs.KeyLaws.{exact_order, as-order, to-order}
use Rattle.value_orders.proofs.OrderLaws.{kind-ascends}
use Rattle.value_index.proofs.value_index.take_from.Goals as goal

pub take_out-requires-clause-exact : goal.take_out-requires-clause-exact
take_out-requires-clause-exact c = exact_order _ _

pub take_out-requires-clause-exact_listed : goal.take_out-requires-clause-exact_listed
take_out-requires-clause-exact_listed c = exact_order _ _

pub take_out-requires-clause-ascend : goal.take_out-requires-clause-ascend
take_out-requires-clause-ascend c =
    to-order (λ o. Ascends o c.args.order.now.items) c.new.result _ _ c.new.ensures.values c.new.ensures.kind c.requires.ascend

pub take_out-requires-clause-gone : goal.take_out-requires-clause-gone
take_out-requires-clause-gone c =
    let going = c.args.gone.now in
    let own = subst (λ (o : Orders). Ascends (entry_order o.values c.args.kind) (order_at o c.args.kind)) c.gone.view_is (kind-ascends _ c.gone.invariant c.args.kind) in
    let listed = to-order (λ o. Ascends o (order_at going c.args.kind)) c.new-listed.result going.values c.args.kind
    (c.new-listed.ensures.values ∙ c.as_slice.ensures.value ∙ ap (λ (o : Orders). o.values) c.gone.view_is) c.new-listed.ensures.kind own in
    subst (λ (l : List Entry). Ascends (entry_order c.new-listed.result.values c.new-listed.result.kind) l) (sym c.order.ensures) listed

pub returns-clause-without : goal.returns-clause-without
returns-clause-without c =
    as-order (λ o. AreWithout o (order_at c.args.gone.now c.args.kind) c.args.order.now.items c.take_out.new.self.items) c.new.result _ _
    c.new.ensures.values c.new.ensures.kind
    (subst (λ (l : List Entry). AreWithout (entry_order c.new.result.values c.new.result.kind) l c.args.order.now.items c.take_out.new.self.items) c.order.ensures c.take_out.ensures.without)
