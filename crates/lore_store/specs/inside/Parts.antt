-- The parts of a plan, and what is read while they are worked out one after another.
use Rattle.std.specs.Prelude.{ℕ, ◌*◌, List}
use Rattle.lore_base.specs.declared.edges.Edge.{Edge}
use Rattle.lore_base.specs.Databases.{OemGraph}
use Rattle.read_costs.specs.Spent.{IsSpent}
use Rattle.read_costs.specs.ReadCosts.{link_reads}
use Rattle.read_costs.specs.Concerned.{IsInDoubt}
use Rattle.oem_graph.specs.Plans.{PlannedGraph}
use Rattle.lore_store.specs.Types.{Changes}
use Rattle.lore_store.specs.declared.prepared.OtherParts.{OtherParts}
use Rattle.lore_store.specs.Stores.{PlannedDatabase}
use Rattle.lore_store.specs.Reads.{ReadsWithinWork}

-- the plan of a graph with its other parts
abbrev pub plan_with : PlannedGraph → OtherParts → PlannedDatabase
plan_with graph parts = record { graph = graph; labels = parts.labels; indexes = parts.indexes; guide = parts.guide }

-- each object in doubt was read at most once, over these edges, to find who is dead
abbrev pub IsSearched : OemGraph → Changes → List Edge → ℕ → ℕ → Type 0
IsSearched before changes between = IsSpent (IsInDoubt before changes between) (λ oid. 2 * link_reads between oid)

-- where that was all that was read before, what was read until now is within the work of the changes
abbrev pub StaysWithinWork : OemGraph → Changes → List Edge → ℕ → ℕ → Type 0
StaysWithinWork before changes between old now =
    (first : ℕ) → IsSearched before changes between first old → ReadsWithinWork before changes first now
