-- Blocks numbered in the order of their first nodes.
use Rattle.std.specs.Prelude.{◌≡◌, ◌⊎◌, ℕ, ◌<◌, ◌≤◌, List, [], ◌∷◌, ◌++◌, length, slice_index, Option, None}
use Rattle.std.specs.Prelude.{Some}
use Rattle.std.specs.Prelude.{All, AllPairs, cond, nat_eq}

-- the number has got the level, and all others have what they had
abbrev pub IsPut : (ℕ → Option ℕ) → (ℕ → Option ℕ) → ℕ → ℕ → Type 0
IsPut old new number level = (other : ℕ) → new other ≡ cond (nat_eq number other) (Some level) (old other)

-- the level of an old number: the one that is known, or a new one, of which the node is the first
abbrev pub IsLevel : ℕ → ℕ → (ℕ → Option ℕ) → (ℕ → Option ℕ) → List ℕ → List ℕ → ℕ → Type 0
IsLevel node number old new firsts after level =
    (old number ≡ Some level) × (new ≡ old) × (after ≡ firsts)
    ⊎ (old number ≡ None) × (level ≡ length firsts) × IsPut old new number level
    × (after ≡ firsts ++ node ∷ [])

-- the levels of the nodes below a count: one for each old number that was met, with its first node
pub record AreLevelsBelow (count : ℕ) (numbers : List ℕ) (known : ℕ → Option ℕ) (firsts levels : List ℕ)
    : Type 0 where
  pub every : length levels ≡ count
  pub met : (node : ℕ) → node < count → known (slice_index numbers node) ≡ Some (slice_index levels node)
  pub low : (number level : ℕ) → known number ≡ Some level → level < length firsts
  pub own : (number level : ℕ) → known number ≡ Some level
      → slice_index numbers (slice_index firsts level) ≡ number
  pub back : (level : ℕ) → level < length firsts → slice_index levels (slice_index firsts level) ≡ level
  pub first : (node : ℕ) → node < count → slice_index firsts (slice_index levels node) ≤ node
  pub recent : All (λ node. node < count) firsts
  pub ascend : AllPairs (λ a b. a < b) firsts
