-- The order of refusals in stages: those of what a statement reads, of its rows, and of its changes.
use Rattle.std.specs.Prelude.{◌≡◌, ◌≢◌, ℕ, List, [], ◌∷◌, ◌++◌, length, Option, Some}
use Rattle.statements.specs.Types.{Oid, Cell, Changes, Refusal}
use Rattle.statements.specs.Types.cells
use Rattle.statements.specs.Types.refusals
use Rattle.lore_base.specs.Databases.{Database}
use Rattle.lorel_trees.specs.Trees.{SelectTree}
use Rattle.lorel_bind.specs.Refusals as binding
pub use Rattle.lorel_bind.specs.Refusals.{bind_order}
use Rattle.oem_text.specs.declared.parts.Part.{Part}
use Rattle.statements.specs.declared.stops.Stop.{Stop}
use Rattle.statements.specs.Statements.{HasTooManyRows}
use Rattle.statements.specs.Stops.{told}

-- the cause of each refusal of a select
abbrev pub ReadCause : Database → SelectTree → Refusal → Type 0
ReadCause db query refusals.TooManyRows = HasTooManyRows db query
ReadCause db query refusal = binding.BindCause db.graph.names query refusal

-- what a select is refused for, with its rows
abbrev pub read_order : List Refusal
read_order = bind_order ++ refusals.TooManyRows ∷ []

-- what a statement is refused for before its rows are found: the front of the order of causes
abbrev pub bound_order : List Refusal
bound_order = refusals.Syntax ∷ bind_order

-- what a statement is refused for before its changes are made
abbrev pub found_order : List Refusal
found_order = bound_order ++ refusals.DuplicateLocal ∷ refusals.UndefinedLocal ∷ refusals.TooManyRows ∷ []

-- what is refused before the changes are known to fit the database
abbrev pub fit_order : List Refusal
fit_order =
    found_order ++ refusals.NotOne ∷ refusals.AtomicParent ∷ refusals.HasChildren ∷ refusals.OidsSpent
    ∷ refusals.TooManyLabels ∷ []

-- what is left then
abbrev pub change_order : List Refusal
change_order =
    refusals.NotOne ∷ refusals.AtomicParent ∷ refusals.HasChildren ∷ refusals.OidsSpent ∷ refusals.TooManyLabels
    ∷ refusals.TooManyNames ∷ refusals.TooManyObjects ∷ refusals.TooManyEdges ∷ refusals.GuideNodes
    ∷ refusals.GuideCells ∷ refusals.LimitRange ∷ refusals.NotFresh ∷ refusals.BadRestore ∷ []

-- the changes that make the part and bind the name to its first object
abbrev pub loading_part : List ℕ → Part → Changes
loading_part name part = record {
  made = part.made;
  values = [];
  added = part.added;
  removed = [];
  named = (name, part.root) ∷ [];
  unnamed = [];
  labels = part.labels;
}

-- the row shows one object
abbrev pub IsOneObject : List Cell → Type 0
IsOneObject row = (oid : Oid) × (row ≡ cells.Object oid ∷ [])

-- what too many rows of a path to name are answered with: they are not one
abbrev pub not_one : Option Refusal → Option Refusal
not_one (Some refusals.TooManyRows) = Some refusals.NotOne
not_one told = told

-- there is one row, and it shows this object
abbrev pub IsOnly : List (List Cell) → Oid → Type 0
IsOnly rows oid = rows ≡ (cells.Object oid ∷ []) ∷ []

-- there is no row, or there are several
abbrev pub IsNotOnly : List (List Cell) → Stop → Type 0
IsNotOnly rows stop = (told stop ≡ Some refusals.NotOne) × (length rows ≢ 1)
