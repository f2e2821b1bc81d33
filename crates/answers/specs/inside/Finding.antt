-- How rows are noted down as they come.
use Rattle.std.specs.Prelude.{◌≡◌, ◌⊎◌, Bool, true, false, List, Contains}
use Rattle.answers.specs.Types.{Cell}
use Rattle.lorel_bound.specs.Answers.{AreAscendingRows, IsTooMuch}

-- to the rows found come those that are asked for; or, where that is cut off, some of them, and then they are too much
pub record Finds (IsAsked : List Cell → Type 0) (old new : List (List Cell)) (cut : Bool) : Type 0 where
  pub kept : (row : List Cell) → Contains old row → Contains new row
  pub sound : (row : List Cell) → Contains new row → Contains old row ⊎ IsAsked row
  pub complete : cut ≡ false → (row : List Cell) → IsAsked row → Contains new row
  pub many : cut ≡ true → AreAscendingRows new × IsTooMuch new
