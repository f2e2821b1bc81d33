-- What steps keep of what they reached the last time that they were taken.
use Rattle.std.specs.Prelude.{◌≡◌, ℕ, false, List, length, Some, IsTrue, slice_get}
use Rattle.lore_base.specs.Paths.{Reaches, path_tree}
use Rattle.lore_base.specs.TargetSets.{ListsInOrder}
use Rattle.word_walks.specs.WordWalks.{IsReachedBy}
use Rattle.plan_ops.specs.Types.{Oid}
use Rattle.plan_laws.specs.Steps.{StepsOver}
use Rattle.plan_ops.specs.inside.Ready.{ReadyStep}
use Rattle.plan_ops.specs.declared.ready_steps.ReadyStep.TheVariants as ready
pub use Rattle.plan_ops.specs.declared.kept.Kept.{Kept}

-- no object was reached, or the objects were given out
abbrev pub IsNothing : Kept → Type 0
IsNothing kept = kept.is_whole ≡ false

-- where the objects weren't given out, they are those to which something leads from the object where the step began
abbrev pub IsKept : (Oid → Oid → Type 0) → Kept → Type 0
IsKept Leads kept = IsTrue kept.is_whole → ListsInOrder (Leads kept.from) kept.reached

-- of a step that walks forward
abbrev pub IsKeptBy : StepsOver → ReadyStep → Kept → Type 0
IsKeptBy over (ready.Forward start route slot) kept = IsKept (Reaches over.labels over.edges (path_tree route)) kept
IsKeptBy over (ready.AlongWord start path word slot) kept = IsKept (IsReachedBy word over.edges) kept
IsKeptBy over step kept = Unit {0}

-- each step keeps what is its own
pub record AreKeptBy (over : StepsOver) (steps : List ReadyStep) (list : List Kept) : Type 0 where
  pub long : length list ≡ length steps
  pub each : (place : ℕ) (step : ReadyStep) (kept : Kept) → slice_get steps place ≡ Some step → slice_get list place ≡ Some kept
      → IsKeptBy over step kept
