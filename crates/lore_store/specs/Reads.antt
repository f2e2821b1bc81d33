-- What it costs to prepare a change.
use Rattle.std.specs.Prelude.{ℕ}
use Rattle.lore_base.specs.Databases.{OemGraph}
use Rattle.lore_base.specs.ChangeSets.{IsGraphAfter}
use Rattle.read_costs.specs.Work.{IsWithinWork}
use Rattle.lore_store.specs.Types.{Changes}

-- the count of reads has risen by at most four times the work of the changes: what it costs to read, once each, the
-- target sets of the graph after them that they touch, and the objects that lie below their cuts or near them
abbrev pub ReadsWithinWork : OemGraph → Changes → ℕ → ℕ → Type 0
ReadsWithinWork before changes old now =
    (after : OemGraph) × (leads : IsGraphAfter before changes after)
    × IsWithinWork 4 before changes leads.between after old now
