-- An ascending list from which items go, or into which they come, in place.
use Rattle.std.specs.Prelude.{◌≡◌, ◌≢◌, ◌⊎◌, ◌↔◌, List, Contains}
use Rattle.std.specs.declared.cmp.Ordering.{Ordering}
use Rattle.sorted_list.specs.SortedLists.{Ascends}

-- the items but this one
pub record IsWithout {T : Type 0} (cmp : T → T → Ordering) (gone : T) (items less : List T) : Type 0 where
  pub ascend : Ascends cmp less
  pub members : (item : T) → Contains less item ↔ (Contains items item × (item ≢ gone))

-- the items and this one
pub record IsWith {T : Type 0} (cmp : T → T → Ordering) (new : T) (items more : List T) : Type 0 where
  pub ascend : Ascends cmp more
  pub members : (item : T) → Contains more item ↔ (Contains items item ⊎ (item ≡ new))
