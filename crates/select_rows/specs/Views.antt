-- What the rows of a bound select are found in, and which rows are its own there.
use Rattle.std.specs.Prelude.{ℕ, ◌⊎◌, List}
use Rattle.std.specs.List.{AllZip}
use Rattle.select_rows.specs.Types.{Oid, Edge, Value, ValueEntry, Cell}
use Rattle.lore_base.specs.Paths.{PathTree}
use Rattle.lorel_bound.specs.Bound.{BoundTree}
use Rattle.lorel_bound.specs.Plans.{StepTree}
use Rattle.lorel_bound.specs.SlotRows.{HoldsOver, AreFilled, ShowsSlot, ShowsObjects}
use Rattle.plan_laws.specs.Steps.{StepsOver, steps_over, IsSought}
use Rattle.plan_ops.specs.Rows.{AreQuiet}

-- what the steps of its plans are taken over, where these objects have values: rows pass of which its condition holds
abbrev pub view_over :
    (labels : List (List ℕ)) (edges : List Edge) (objects : List (Oid × Value)) (links : List Edge)
    (entries : List ValueEntry) (reaches : PathTree → Oid → Oid → Type 0) → BoundTree → StepsOver
view_over labels edges objects links entries reaches bound =
    steps_over labels edges links entries reaches (λ slots. HoldsOver labels edges objects slots bound.cond)

-- the row shows the cells of slots that are filled and that the condition holds of
pub record IsRowOf (labels : List (List ℕ)) (edges : List Edge) (objects : List (Oid × Value)) (bound : BoundTree)
    (row : List Cell) : Type 0 where
  pub slots : List Oid
  pub filled : AreFilled labels edges bound.ranges slots
  pub holds : HoldsOver labels edges objects slots bound.cond
  pub shown : AllZip (ShowsSlot labels edges bound.ranges slots) bound.cells row

-- these steps read no edge, and either no cell shows a word, or no row is sought
abbrev pub ReadsNone : StepsOver → BoundTree → List StepTree → Type 0
ReadsNone over bound steps =
    AreQuiet over steps
    × (ShowsObjects bound ⊎ ((slots : List Oid) → IsSought over.labels over.edges over.passes bound slots → ⊥))
