-- Steps that may read an edge.
use Rattle.std.specs.Prelude.{List, ◌∷◌, All}
use Rattle.lorel_bound.specs.Plans.{StepTree, from_value, IsCandidate}
use Rattle.plan_ops.specs.Rows.{IsGuided}
use Rattle.select_rows.specs.Types.{Oid, ValueEntry}

-- these steps may read an edge: some object has a value that they begin with, or the guide doesn't tell all
abbrev pub ReadsSome : List ValueEntry → List StepTree → Type 0
ReadsSome entries (from_value label op value rest slot ∷ steps) = ((oid : Oid) → IsCandidate entries label op value oid → ⊥) → ⊥
ReadsSome entries steps = All IsGuided steps → ⊥
