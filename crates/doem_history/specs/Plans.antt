-- Plans of one moment more: which runs end, which facts come, and what the history weighs then. A caller
-- needs `Appends` and `HasRoom` alone, and hands them on.
use Rattle.std.specs.Prelude.{◌≡◌, ◌≢◌, ℕ, ◌+◌, ◌<◌, ◌≤◌, List, length, sum_by, AllPairs, Contains, Some}
use Rattle.std.specs.Prelude.{slice_get}
use Rattle.doem_history.specs.Types.{Oid, Edge, Value, Delta, Run, STANDING, MOMENTS, HISTORY_WEIGHT}
use Rattle.doem_history.specs.Facts.{object_weight}
use Rattle.doem_history.specs.Moments.{Moment, LeadsTo}
use Rattle.doem_history.specs.Histories.{KeptHistory, last_moment}

-- the run at the place goes on, and it is one of the fact
pub record IsOpen {F : Type 0} (runs : List (Run F)) (place : ℕ) (fact : F) : Type 0 where
  pub run : Run F
  pub at : slice_get runs place ≡ Some run
  pub goes_on : run.end ≡ STANDING
  pub of : run.fact ≡ fact

-- the places, each once, hold the runs of exactly these facts, all of which go on
pub record AreEnding {F : Type 0} (runs : List (Run F)) (gone : List F) (places : List ℕ) : Type 0 where
  pub apart : AllPairs (λ a b. a ≢ b) places
  pub each : (place : ℕ) → Contains places place → (fact : F) × Contains gone fact × IsOpen runs place fact
  pub all : (fact : F) → Contains gone fact → (place : ℕ) × Contains places place × IsOpen runs place fact

-- the places of the runs that end, and the facts that come
pub record PlannedRuns (F : Type 0) : Type 0 where
  pub places : List ℕ
  pub come : List F

pub record PlannedMoment : Type 0 where
  pub names : PlannedRuns (List ℕ × Oid)
  pub objects : PlannedRuns (Oid × Value)
  pub edges : PlannedRuns Edge
  pub weight : ℕ

-- the runs of the facts that go end, and the facts come
pub record Ends {F : Type 0} (runs : List (Run F)) (gone come : List F) (plan : PlannedRuns F) : Type 0 where
  pub ending : AreEnding runs gone plan.places
  pub coming : plan.come ≡ come

-- what names, objects and edges weigh
abbrev pub weight_of : List (List ℕ × Oid) → List (Oid × Value) → List Edge → ℕ
weight_of names objects edges = sum_by (λ _. 64) names + sum_by object_weight objects + sum_by (λ _. 64) edges

-- what comes with a delta weighs so much
abbrev pub weight_of_come : Delta → ℕ
weight_of_come delta = weight_of delta.names_come delta.objects_come delta.edges_come

-- the plan carries the delta out, and the history isn't full then
pub record CarriesOut (history : KeptHistory) (delta : Delta) (plan : PlannedMoment) : Type 0 where
  pub names : Ends history.names.runs delta.names_gone delta.names_come plan.names
  pub objects : Ends history.objects.runs delta.objects_gone delta.objects_come plan.objects
  pub edges : Ends history.edges.runs delta.edges_gone delta.edges_come plan.edges
  pub weight : plan.weight ≡ history.weight + weight_of_come delta
  pub light : plan.weight ≤ HISTORY_WEIGHT
  pub early : history.last < MOMENTS

-- the plan appends the moment to the history
pub record Appends (history : KeptHistory) (plan : PlannedMoment) (after : Moment) : Type 0 where
  pub delta : Delta
  pub leads : LeadsTo (last_moment history) after delta
  pub carries : CarriesOut history delta plan

-- how many beginnings, endings and moments there are
abbrev pub steps_in : {F : Type 0} → PlannedRuns F → ℕ
steps_in plan = length plan.come + length plan.places + 1

-- the history keeps the room free that the plan needs
pub record HasRoom (history : KeptHistory) (plan : PlannedMoment) : Type 0 where
  pub names : steps_in plan.names ≤ history.names.room
  pub objects : steps_in plan.objects ≤ history.objects.room
  pub edges : steps_in plan.edges ≤ history.edges.room
