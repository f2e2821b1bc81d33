-- Items put into lists by their numbers.
use Rattle.std.specs.Prelude.{◌≡◌, ℕ, ◌==◌, List, [], slice_index_or, filter, map}

-- the items with the number, in their order
abbrev pub items_of : {X : Type 0} → ℕ → List (ℕ × X) → List X
items_of number pairs = map (λ pair. pair.1) (filter (λ pair. pair.0 == number) pairs)

-- each list has the items with its number
abbrev pub AreGathered : {X : Type 0} → List (ℕ × X) → List (List X) → Type 0
AreGathered pairs lists = (number : ℕ) → slice_index_or lists number [] ≡ items_of number pairs
