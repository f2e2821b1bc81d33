-- What the cells of a bound select show of rows of slots, made ready, and what is noted of those rows as they come.
use Rattle.std.specs.Prelude.{◌≡◌, ◌⊎◌, ◌↔◌, ℕ, Bool, true, false, List, Option, Some, None, MatchOption, Contains, slice_get, option_map}
use Rattle.std.specs.List.{AllZip}
use Rattle.lorel_bound.specs.declared.bound.Bound.{Bound}
use Rattle.lorel_bound.specs.declared.bound.Range.{Range}
use Rattle.lorel_bound.specs.Runnable.{IsWithin}
use Rattle.lorel_bound.specs.Bound.{bound_tree}
use Rattle.lorel_bound.specs.SlotRows.{StartsAt}
use Rattle.answers.specs.Types.{Oid, Label, Edge, CellOf, Cell, RANGES}
use Rattle.answers.specs.Types.shown
use Rattle.answers.specs.Types.cells
use Rattle.answers.specs.Asked.{ShowsRow, ShowsAsked, AreTooMany}
use Rattle.answers.specs.inside.Words.{WordsOver, HasWord}
use Rattle.answers.specs.declared.ready_cells.ReadyCell.{ReadyCell}
use Rattle.answers.specs.declared.ready_cells.ReadyCell.TheVariants as ready

module _ {A : Type 0} where
  -- a cell that is made ready shows an object, and no word
  abbrev pub IsReadyObject : ReadyCell A → Type 0
  IsReadyObject (ready.Object start) = Unit {0}
  IsReadyObject (ready.Word words) = ⊥

  -- the slot of a start is there
  abbrev pub IsReadyWithin : ReadyCell A → Type 0
  IsReadyWithin (ready.Object start) = IsWithin RANGES start
  IsReadyWithin (ready.Word words) = Unit {0}

  -- a cell of a bound select is made ready, over label texts and edges
  abbrev pub IsMadeReady : List (List ℕ) → List Edge → List Range → CellOf → ReadyCell A → Type 0
  IsMadeReady labels edges ranges (shown.Object start) (ready.Object own) = start ≡ own
  IsMadeReady labels edges ranges (shown.PathOf slot) (ready.Word words) =
      (range : Range) × (slice_get ranges slot ≡ Some range)
      × (words ≡ record { labels = labels; edges = edges; range = range; slot = slot })
  IsMadeReady labels edges ranges _ _ = ⊥

  -- what a cell shows of a row of slots: an object, or a word, if there is one
  abbrev pub Reads : List Oid → ReadyCell A → Option Cell → Type 0
  Reads slots (ready.Object start) out = (oid : Oid) × StartsAt slots start oid × (out ≡ Some (cells.Object oid))
  Reads slots (ready.Word words) out =
      (own : Option (List Label)) × HasWord words slots own × (out ≡ option_map cells.Path own)

  -- what cells show of a row of slots: a row, or none where one of them shows nothing
  abbrev pub ReadsRow : List Oid → List (ReadyCell A) → Option (List Cell) → Type 0
  ReadsRow slots own row = MatchOption row
      ((cell : ReadyCell A) × Contains own cell × Reads slots cell None)
      (λ row. AllZip (λ cell out. Reads slots cell (Some out)) own row)

  -- they show the row of some of these rows of slots
  abbrev pub ReadsSome : List (ReadyCell A) → List (List Oid) → List Cell → Type 0
  ReadsSome own rows row = (slots : List Oid) × Contains rows slots × ReadsRow slots own (Some row)

-- the rows that a bound select's cells show of rows of slots, over label texts and edges: those that are found, and
-- rows of slots that wait
pub record RowsShown : Type 0 where
  pub labels : List (List ℕ)
  pub edges : List Edge
  pub bound : Bound
  pub waiting : List (List Oid)
  pub found : List (List Cell)

-- the rows are those of one bound select
pub record AreOfOne (old new : RowsShown) : Type 0 where
  pub labels : new.labels ≡ old.labels
  pub edges : new.edges ≡ old.edges
  pub bound : new.bound ≡ old.bound

-- the cells show this row of the slots
abbrev pub ShowsNext : RowsShown → List Oid → List Cell → Type 0
ShowsNext shown = ShowsRow shown.labels shown.edges (bound_tree shown.bound)

-- a row is noted: it is found, or shown of a row of slots that waits
abbrev pub IsNoted : RowsShown → List Cell → Type 0
IsNoted shown row = Contains shown.found row
    ⊎ ShowsAsked shown.labels shown.edges (bound_tree shown.bound) (Contains shown.waiting) row

-- exactly the rows that were to be noted are; or, where that is cut off, they are too much
pub record AreNow (IsWanted IsThere : List Cell → Type 0) (cut : Bool) : Type 0 where
  pub exact : cut ≡ false → (row : List Cell) → IsThere row ↔ IsWanted row
  pub many : cut ≡ true → AreTooMany IsWanted
