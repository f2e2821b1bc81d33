-- Lists that hold each item once that passes, in an order.
use Rattle.std.specs.Prelude.{◌⊎◌, ◌↔◌, List, map, Contains}
use Rattle.std.specs.declared.cmp.Ordering.{Ordering}
use Rattle.sorted_list.specs.SortedLists.{Ascends}

-- the items are those that pass, each once, in ascending order
pub record AreSetOf {X : Type 0} (cmp : X → X → Ordering) (Passes : X → Type 0) (items : List X) : Type 0 where
  pub ascend : Ascends cmp items
  pub exact : (item : X) → Contains items item ↔ Passes item

-- behind the items of the list stand those that the function makes of the others and that pass, in any order
pub record AreAdded {X Y : Type 0} (of : X → Y) (Passes : Y → Type 0) (others : List X) (old new : List Y) : Type 0 where
  pub exact : (item : Y) → Contains new item ↔ (Contains old item ⊎ (Contains (map of others) item × Passes item))
