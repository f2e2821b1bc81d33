-- Items that go, told by their comparisons.
use Rattle.std.specs.Prelude.{Bool, not, List, filter}
use Rattle.std.specs.List.{list_any}
use Rattle.std.specs.Ordering.{is_eq}
use Rattle.std.specs.declared.cmp.Ordering.{Ordering}

-- one of the items compares as equal to this one
abbrev pub is_listed : {T : Type 0} → (T → T → Ordering) → List T → T → Bool
is_listed cmp items item = list_any (λ other. is_eq (cmp other item)) items

-- the items that do not go
abbrev pub staying : {T : Type 0} → (T → T → Ordering) → List T → List T → List T
staying cmp gone items = filter (λ item. not (is_listed cmp gone item)) items
