-- Why a guide can't be had.
use Rattle.std.specs.Prelude.{ℕ, List}
use Rattle.lore_base.specs.GuideLimits.{ExceedsNodes, ExceedsCells}
use Rattle.set_explorer.specs.Types.{Oid, Edge, GuideFault, Nodes, Cells, NoMemory}

-- the cause of each fault, where so many nodes are allowed
abbrev pub GuideCause : ℕ → List (List ℕ × Oid) → List Edge → GuideFault → Type 0
GuideCause limit names edges Nodes = ExceedsNodes limit names edges
GuideCause limit names edges Cells = ExceedsCells limit names edges
GuideCause limit names edges NoMemory = Unit {0}
