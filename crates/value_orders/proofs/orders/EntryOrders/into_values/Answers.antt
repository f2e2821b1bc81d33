use Rattle.std.proofs.Common.{subst, ap}
use Rattle.value_orders.specs.Orders.{Orders, AreSortedOrders}
use Rattle.value_orders.proofs.orders.EntryOrders.into_values.Goals as goal

pub returns-clause-values : goal.returns-clause-values
returns-clause-values c = ap (λ (o : Orders). o.values) c.self.view_is

pub returns-clause-sorted : goal.returns-clause-sorted
returns-clause-sorted c = subst AreSortedOrders c.self.view_is c.self.invariant
