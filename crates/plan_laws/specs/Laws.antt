-- Laws of plans.
use Rattle.std.specs.Prelude.{◌≢◌, ◌↔◌, ℕ, List, [], AllPairs}
use Rattle.lore_base.specs.Paths.{Reaches}
use Rattle.lorel_bound.specs.Bound.{BoundTree}
use Rattle.lorel_bound.specs.Runnable.{IsRunnable}
use Rattle.lorel_bound.specs.SlotRows.{HoldsOver}
use Rattle.index_traits.specs.Entries.{AreLinks, AreValueEntries}
use Rattle.lorel_bound.specs.Plans.{StepTree, AreStepsOf}
use Rattle.plan_laws.specs.Types.{Oid, Edge, Value, ValueEntry, PlanKind}
use Rattle.plan_laws.specs.Steps.{StepsOver, Finishes, IsSought, in_eight}

-- what steps are taken over in a database: its edges, its link entries and its value entries
abbrev pub over_database :
    List (List ℕ) → List Edge → List (Oid × Value) → List Edge → List ValueEntry → BoundTree → StepsOver
over_database labels edges objects links entries bound = record {
  labels = labels;
  edges = edges;
  links = links;
  entries = entries;
  reaches = Reaches labels edges;
  passes = λ row. HoldsOver labels edges objects row bound.cond;
}

-- over one database the steps of each kind describe the same rows: those that the bound select seeks
abbrev pub StepsDescribeRows : Type 0
StepsDescribeRows =
    (labels : List (List ℕ)) (edges : List Edge) (objects : List (Oid × Value)) (links : List Edge)
    (entries : List ValueEntry) (bound : BoundTree) (kind : PlanKind) (steps : List StepTree)
    → AllPairs (λ a b. a ≢ b) labels → AreLinks edges links → AreValueEntries objects edges entries
    → IsRunnable bound → AreStepsOf labels bound kind steps
    → (row : List Oid)
    → Finishes (over_database labels edges objects links entries bound) steps (in_eight []) row
    ↔ IsSought labels edges (λ row. HoldsOver labels edges objects row bound.cond) bound row
