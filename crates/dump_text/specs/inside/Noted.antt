-- Numbers that are noted at places.
use Rattle.std.specs.Prelude.{◌≡◌, ℕ, ◌+◌, Bool, true, false, List, slice_index_or}

-- the place of the number, counted from the first one, is noted
abbrev pub IsNoted : List Bool → ℕ → ℕ → Type 0
IsNoted noted first number =
    (place : ℕ) × (slice_index_or noted place false ≡ true) × (first + place ≡ number)
