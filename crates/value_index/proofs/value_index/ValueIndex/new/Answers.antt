use Rattle.std.proofs.Common.{◌≡◌, [], refl}
use Rattle.value_orders.specs.Orders.{Orders, in_order}
use Rattle.value_index.specs.inside.Counted.{AreCountedOrders}
use Rattle.value_index.proofs.IndexLaws.{none-counted}
use Rattle.value_orders.proofs.OrderLaws.{none-seen}
use Rattle.value_index.proofs.value_index.ValueIndex.new.Goals as goal

pub invariant_of-result : goal.invariant_of-result
invariant_of-result c =
    none-seen AreCountedOrders none-counted _ _ _ _ _ _ c.new.ensures.items c.new-2.ensures c.new-3.ensures c.new-4.ensures c.new-5.ensures c.new-6.ensures

pub returns : goal.returns
returns c =
    none-seen (λ (o : Orders). in_order o ≡ []) refl _ _ _ _ _ _ c.new.ensures.items c.new-2.ensures c.new-3.ensures c.new-4.ensures c.new-5.ensures c.new-6.ensures
