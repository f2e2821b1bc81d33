-- Why a graph is too large for a database.
use Rattle.std.specs.Prelude.{ℕ, ◌<◌, List, [], ◌∷◌, length}
use Rattle.lore_store.specs.Types.{Refusal, NAMES, OBJECTS, EDGES}
use Rattle.lore_store.specs.Types.refusals
use Rattle.lore_base.specs.GuideLimits.{ExceedsNodes, ExceedsCells}
use Rattle.lore_base.specs.Databases.{OemGraph}

-- the graph has more names, objects or edges than a database holds
abbrev pub SizeCause : OemGraph → Refusal → Type 0
SizeCause graph refusals.TooManyNames = NAMES < length graph.names
SizeCause graph refusals.TooManyObjects = OBJECTS < length graph.objects
SizeCause graph refusals.TooManyEdges = EDGES < length graph.edges
SizeCause graph _ = ⊥

-- the guide of the graph passes a limit, of which the one on nodes is the database's and not the graph's
abbrev pub SetsCause : ℕ → OemGraph → Refusal → Type 0
SetsCause limit graph refusals.GuideNodes = ExceedsNodes limit graph.names graph.edges
SetsCause limit graph refusals.GuideCells = ExceedsCells limit graph.names graph.edges
SetsCause limit graph _ = ⊥

-- the order in which these causes are tried
abbrev pub sets_order : List Refusal
sets_order = refusals.GuideNodes ∷ refusals.GuideCells ∷ []
