-- Items in slots, of which some hold none.
use Rattle.std.specs.Prelude.{◌≡◌, ℕ, Option, Some, None, List, [], ◌∷◌, slice_index_or}
use Rattle.std.specs.BTreeSet.{insert_key}
use Rattle.std.specs.declared.cmp.Ordering.{Ordering}

-- the items with another one, if there is one, at its place
abbrev pub with_item : {X : Type 0} → (X → X → Ordering) → List X → Option X → List X
with_item cmp items None = items
with_item cmp items (Some item) = insert_key cmp items item

-- the items of the slots, in the order of the comparison, each once
abbrev pub listed : {S X : Type 0} → (S → Option X) → (X → X → Ordering) → List S → List X
listed item_in cmp [] = []
listed item_in cmp (slot ∷ slots) = with_item cmp (listed item_in cmp slots) (item_in slot)

-- the item lies in the slot at the key; behind the slots there is one that holds none
abbrev pub LiesIn : {S X : Type 0} → (S → Option X) → S → List S → ℕ → X → Type 0
LiesIn item_in empty slots key item = item_in (slice_index_or slots key empty) ≡ Some item
