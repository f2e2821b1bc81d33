-- What holds of the machine of partial rows between two answers.
use Rattle.std.specs.Prelude.{◌≡◌, List, [], ◌∷◌, ◌++◌, length, map, All}
use Rattle.lorel_bound.specs.Plans.{StepTree}
use Rattle.row_hints.specs.declared.told.Told.{Told}
use Rattle.row_hints.specs.Told.{AreTold}
use Rattle.plan_ops.specs.Types.{Oid, PartialRow, RANGES}
use Rattle.plan_laws.specs.Steps.{StepsOver}
use Rattle.plan_ops.specs.Rows.{IsToCome, AreApart}
use Rattle.plan_laws.specs.Orders.{AreStepsInOrder, CanBeReady}
use Rattle.plan_ops.specs.inside.Ready.{ReadyStep, ready_tree, HasFound}
use Rattle.plan_ops.specs.inside.Keeping.{Kept, AreKeptBy}

-- what is told early holds of each row that is to come of these partial rows and passes
pub record AreHinted (over : StepsOver) (Hints : List Oid → Type 0) (steps : List StepTree) (partials : List PartialRow) : Type 0 where
  pub told : (row : List Oid) → IsToCome over steps partials row → over.passes row → Hints row

-- each step finds what it reads and can be taken, and no row comes of two partial rows, each of which has eight slots
pub record IsMachine (over : StepsOver) (steps : List StepTree) (partials : List PartialRow) : Type 0 where
  pub in_order : AreStepsInOrder steps
  pub can : All CanBeReady steps
  pub apart : AreApart over steps partials
  pub eight : All (λ partial. length partial.row ≡ RANGES) partials

-- so it is with steps that are made ready with what the guide tells, and true of them is what each keeps of its last walk;
-- what hints told of slots is true of rows of which they hold, and they hold of each row that is to come and passes
pub record IsReadyMachine (over : StepsOver) (Hints : List Oid → Type 0) (steps : List StepTree) (ready : List ReadyStep)
    (kept : List Kept) (told : List Told) (partials : List PartialRow) : Type 0 where
  pub ready_are : map ready_tree ready ≡ steps
  pub found : All (HasFound over.labels over.reaches) ready
  pub kept_are : AreKeptBy over ready kept
  pub told_are : AreTold Hints told
  pub hinted : AreHinted over Hints steps partials
  pub machine : IsMachine over steps partials

-- the last partial row was taken away, and had this row
pub record IsPopped (old new : List PartialRow) (row : List Oid) : Type 0 where
  pub last : PartialRow
  pub was : old ≡ new ++ last ∷ []
  pub is : row ≡ last.row
