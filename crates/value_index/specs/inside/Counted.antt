-- Entries that a number of 32 bits counts.
use Rattle.std.specs.Prelude.{◌<◌, ◌^◌, List, length}
use Rattle.value_index.specs.Types.{ValueEntry}
use Rattle.index_traits.specs.Entries.{AreAscendingEntries}
use Rattle.value_orders.specs.Orders.{Orders, in_order, AreSortedOrders}

-- entries in their order, fewer than 4,294,967,296
pub record AreCounted (entries : List ValueEntry) : Type 0 where
  pub ascend : AreAscendingEntries entries
  pub few : length entries < 2 ^ 32

-- sorted orders of so few
pub record AreCountedOrders (orders : Orders) : Type 0 where
  pub sorted : AreSortedOrders orders
  pub few : length (in_order orders) < 2 ^ 32
