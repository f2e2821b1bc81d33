-- The rows that cells show of rows of slots that are asked for.
use Rattle.std.specs.Prelude.{◌≢◌, ◌↔◌, ℕ, List, All, AllPairs, Contains}
use Rattle.std.specs.List.{AllZip}
use Rattle.answers.specs.Types.{Oid, Edge, Cell}
use Rattle.lorel_bound.specs.Bound.{BoundTree}
use Rattle.lorel_bound.specs.SlotRows.{ShowsSlot}
use Rattle.lorel_bound.specs.Answers.{AreAscendingRows, IsTooMuch}

-- the cells of a bound select show a row of these slots, over label texts and edges
abbrev pub ShowsRow : List (List ℕ) → List Edge → BoundTree → List Oid → List Cell → Type 0
ShowsRow labels edges bound slots row = AllZip (ShowsSlot labels edges bound.ranges slots) bound.cells row

-- the row shows some slots that are asked for
abbrev pub ShowsAsked : List (List ℕ) → List Edge → BoundTree → (List Oid → Type 0) → List Cell → Type 0
ShowsAsked labels edges bound IsAsked row =
    (slots : List Oid) × IsAsked slots × ShowsRow labels edges bound slots row

-- all rows that are asked for, each once, in their order; they are not too much
pub record AreRows (IsAsked : List Cell → Type 0) (rows : List (List Cell)) : Type 0 where
  pub ascending : AreAscendingRows rows
  pub exact : (row : List Cell) → Contains rows row ↔ IsAsked row
  pub few : IsTooMuch rows → ⊥

-- rows that are asked for are too much
pub record AreTooMany (IsAsked : List Cell → Type 0) : Type 0 where
  pub rows : List (List Cell)
  pub apart : AllPairs (λ a b. a ≢ b) rows
  pub asked : All IsAsked rows
  pub many : IsTooMuch rows
