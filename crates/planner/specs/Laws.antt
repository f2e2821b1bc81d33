-- Laws of the choice of plans.
use Rattle.std.specs.Prelude.{◌≡◌, ◌≢◌, ℕ, List, AllPairs, Option}
use Rattle.lore_base.specs.Paths.{Reaches}
use Rattle.lore_base.specs.declared.edges.Edge.{Edge}
use Rattle.lorel_bound.specs.Bound.{BoundTree}
use Rattle.lorel_bound.specs.Plans.{Probe, StepTree, CanBeBottom, AreStepsOf}
use Rattle.planner.specs.Types.{Oid, ValueEntry, PlanKind}
use Rattle.planner.specs.Choices.{AreCounts}

-- a bound select has at most one comparison that a bottom plan begins from
abbrev pub BeginsOnce : Type 0
BeginsOnce =
    (bound : BoundTree) (named other : Oid) (probe others : Probe)
    → CanBeBottom bound named probe → CanBeBottom bound other others → (named ≡ other) × (probe ≡ others)

-- it has one list of steps of each kind
abbrev pub HasOnePlan : Type 0
HasOnePlan =
    (labels : List (List ℕ)) (bound : BoundTree) (kind : PlanKind) (steps others : List StepTree)
    → AllPairs (λ a b. a ≢ b) labels
    → AreStepsOf labels bound kind steps → AreStepsOf labels bound kind others → steps ≡ others

-- and one pair of counts
abbrev pub HasOneCount : Type 0
HasOneCount =
    (labels : List (List ℕ)) (edges : List Edge) (entries : List ValueEntry) (bound : BoundTree)
    (candidates found other others : Option ℕ)
    → AllPairs (λ a b. a ≢ b) labels
    → AreCounts labels entries (Reaches labels edges) bound candidates found
    → AreCounts labels entries (Reaches labels edges) bound other others
    → (candidates ≡ other) × (found ≡ others)
