-- Lists in the order of their items, each once, and how they change.
use Rattle.std.specs.Prelude.{◌≡◌, ◌⊎◌, ◌↔◌, List, All, AllPairs, Contains}
use Rattle.std.specs.declared.cmp.Ordering.{Ordering}
use Rattle.std.specs.declared.cmp.Ordering.TheVariants.{Less, Equal}

-- each item comes before those behind it
abbrev pub Ascends : {T : Type 0} → (T → T → Ordering) → List T → Type 0
Ascends cmp items = AllPairs (λ a b. cmp a b ≡ Less) items

-- two items that compare as equal are one
abbrev pub IsExact : {T : Type 0} → (T → T → Ordering) → Type 0
IsExact {T} cmp = (a b : T) → cmp a b ≡ Equal → a ≡ b

-- the item is one of those that come, or is kept and doesn't go
abbrev pub IsThen : {T : Type 0} → List T → List T → List T → T → Type 0
IsThen kept gone come item = Contains come item ⊎ (Contains kept item × (¬ Contains gone item))

-- what goes is kept, and what comes is not kept once that is gone
pub record IsChange {T : Type 0} (kept gone come : List T) : Type 0 where
  pub kept_ones : All (Contains kept) gone
  pub new_ones : All (λ item. ¬ (Contains kept item × (¬ Contains gone item))) come

-- the list is the kept one, less what goes, with what comes
abbrev pub IsLessWith : {T : Type 0} → List T → List T → List T → List T → Type 0
IsLessWith {T} kept gone come after = (item : T) → Contains after item ↔ IsThen kept gone come item

-- the items but these, in ascending order
pub record AreWithout {T : Type 0} (cmp : T → T → Ordering) (gone items less : List T) : Type 0 where
  pub ascend : Ascends cmp less
  pub members : (item : T) → Contains less item ↔ (Contains items item × (¬ Contains gone item))

-- the items of both lists, in ascending order
pub record AreJoined {T : Type 0} (cmp : T → T → Ordering) (first second all : List T) : Type 0 where
  pub ascend : Ascends cmp all
  pub members : (item : T) → Contains all item ↔ (Contains first item ⊎ Contains second item)
