-- The order of the rows of an answer, and how many rows and labels one may have.
use Rattle.std.specs.Prelude.{◌≡◌, ℕ, ◌<◌, ◌⊎◌, List, length, sum_by, AllPairs}
use Rattle.std.specs.declared.cmp.Ordering.TheVariants.{Less}
use Rattle.lorel_bound.specs.Types.{Cell, ROWS, PATH_LABELS}
use Rattle.lorel_bound.specs.Types.cells
use Rattle.lorel_bound.specs.CellOrder.{row_cmp}

-- rows ascend where each comes before those that follow it, so that none is there twice
abbrev pub AreAscendingRows : List (List Cell) → Type 0
AreAscendingRows rows = AllPairs (λ a b. row_cmp a b ≡ Less) rows

-- the labels of a cell: those of its word, if it has one
abbrev pub cell_labels : Cell → ℕ
cell_labels (cells.Object oid) = 0
cell_labels (cells.Path word) = length word

-- the labels in the words of a row
abbrev pub row_labels : List Cell → ℕ
row_labels row = sum_by cell_labels row

-- more rows than an answer may have, or more labels in their words
abbrev pub IsTooMuch : List (List Cell) → Type 0
IsTooMuch rows = (ROWS < length rows) ⊎ (PATH_LABELS < sum_by row_labels rows)
