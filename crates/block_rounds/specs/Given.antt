-- Blocks parted by marks: nodes of one block with one mark stay together, under a number given to both.
use Rattle.std.specs.Prelude.{◌≡◌, ◌&&◌, ℕ, ◌<◌, Bool, nat_eq, List, length, slice_index, slice_index_or}
use Rattle.std.specs.Prelude.{Option, None, Some}

-- the test of two pairs
abbrev pub pair_eq : ℕ × ℕ → ℕ × ℕ → Bool
pair_eq a b = nat_eq a.0 b.0 && nat_eq a.1 b.1

-- nodes of one block with one mark are of one block afterwards
abbrev pub StayTogether : List ℕ → List (Option ℕ) → List ℕ → Type 0
StayTogether numbers marks next = (x y : ℕ) → x < length numbers → y < length numbers
    → slice_index numbers x ≡ slice_index numbers y
    → slice_index_or marks x None ≡ slice_index_or marks y None → slice_index next x ≡ slice_index next y

-- the number that a node with this number and mark gets: its own where it has no mark
abbrev pub IsGiven : (ℕ × ℕ → Option ℕ) → ℕ → Option ℕ → ℕ → Type 0
IsGiven fresh number None given = number ≡ given
IsGiven fresh number (Some mark) given = fresh (number, mark) ≡ Some given

-- what was given stays given
abbrev pub Keeps : (ℕ × ℕ → Option ℕ) → (ℕ × ℕ → Option ℕ) → Type 0
Keeps old new = (key : ℕ × ℕ) (given : ℕ) → old key ≡ Some given → new key ≡ Some given
