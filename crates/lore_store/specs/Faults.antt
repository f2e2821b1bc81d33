-- What a fault of a change, or of a database that is restored, is answered with.
use Rattle.std.specs.Prelude.{Option, Some, None}
use Rattle.lore_base.specs.GuideLimits.{ExceedsNodes, ExceedsCells}
use Rattle.lore_base.specs.Databases.{Database}
use Rattle.lore_store.specs.Types.refusals
use Rattle.lore_store.specs.Types.{Refusal}
use Rattle.dataguide.specs.Types.{GuideFault}
use Rattle.dataguide.specs.Types.faults as guide
use Rattle.lore_store.specs.declared.faults.StoreFault.{StoreFault}
use Rattle.lore_store.specs.declared.faults.StoreFault.TheVariants as fault
use Rattle.lore_store.specs.declared.faults.RestoreFault.{RestoreFault}
use Rattle.lore_store.specs.declared.faults.RestoreFault.TheVariants as restore

-- the refusal of the same name; none for want of memory
abbrev pub refusal_of : StoreFault → Option Refusal
refusal_of fault.TooManyNames = Some refusals.TooManyNames
refusal_of fault.TooManyObjects = Some refusals.TooManyObjects
refusal_of fault.TooManyEdges = Some refusals.TooManyEdges
refusal_of fault.GuideNodes = Some refusals.GuideNodes
refusal_of fault.GuideCells = Some refusals.GuideCells
refusal_of fault.NoMemory = None

-- what a fault of the guide is as one of the store
abbrev pub guide_fault : GuideFault → StoreFault
guide_fault guide.Nodes = fault.GuideNodes
guide_fault guide.Cells = fault.GuideCells
guide_fault guide.NoMemory = fault.NoMemory

-- a text whose guide doesn't fit, by its own limit on nodes, is no dump of a database
abbrev pub restore_refusal : RestoreFault → Option Refusal
restore_refusal restore.GuideNodes = Some refusals.BadRestore
restore_refusal restore.GuideCells = Some refusals.BadRestore
restore_refusal restore.NoMemory = None

-- what a fault of the guide is as one of a database that is restored
abbrev pub guide_restore_fault : GuideFault → RestoreFault
guide_restore_fault guide.Nodes = restore.GuideNodes
guide_restore_fault guide.Cells = restore.GuideCells
guide_restore_fault guide.NoMemory = restore.NoMemory

-- the cause of each fault of a database that is restored
abbrev pub RestoreCause : Database → RestoreFault → Type 0
RestoreCause db restore.GuideNodes = ExceedsNodes db.nodes db.graph.names db.graph.edges
RestoreCause db restore.GuideCells = ExceedsCells db.nodes db.graph.names db.graph.edges
RestoreCause db restore.NoMemory = Unit {0}
