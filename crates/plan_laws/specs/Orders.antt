-- The order of steps in which each finds what it reads, and which steps can be taken.
use Rattle.std.specs.Prelude.{◌≡◌, ◌≢◌, ℕ, ◌<◌, ◌≤◌, List, [], ◌∷◌, length}
use Rattle.lore_base.specs.Paths.{leaves}
use Rattle.index_traits.specs.Entries.{IsProbed}
use Rattle.lorel_bound.specs.Plans.{StepTree, forward, from_guide, from_value, backward, check, filter}
use Rattle.plan_laws.specs.Types.{Start, Complex, RANGES, LEAVES}
use Rattle.plan_laws.specs.Types.starts
use Rattle.plan_laws.specs.Steps.{IsLeft}

-- a slot is one of the eight, and none of these steps fills it
abbrev pub IsSettled : List StepTree → ℕ → Type 0
IsSettled steps slot = (slot < RANGES) × IsLeft steps slot

-- the start is there before these steps
abbrev pub IsThere : List StepTree → Start → ℕ → Type 0
IsThere steps (starts.Named named) slot = Unit {0}
IsThere steps (starts.Slot own) slot = IsSettled steps own × (own ≢ slot)

-- a step reads and fills slots that none of the later ones fills, and a filter is the last
abbrev pub Stands : StepTree → List StepTree → Type 0
Stands (forward start path slot) later = IsSettled later slot × IsThere later start slot
Stands (from_guide named path slot) later = IsSettled later slot
Stands (from_value label op value rest slot) later = IsSettled later slot
Stands (backward child path parent) later = IsSettled later parent × IsSettled later child × (child ≢ parent)
Stands (check child path named) later = IsSettled later child
Stands filter later = length later ≡ 0

-- each step stands so before those behind it
abbrev pub AreStepsInOrder : List StepTree → Type 0
AreStepsInOrder [] = Unit {0}
AreStepsInOrder (step ∷ later) = Stands step later × AreStepsInOrder later

-- a step can be made ready and taken: its path has few leaves, and what is asked of values can be looked up
abbrev pub CanBeReady : StepTree → Type 0
CanBeReady (forward start path slot) = leaves path ≤ LEAVES
CanBeReady (from_guide named path slot) = leaves path ≤ LEAVES
CanBeReady (from_value label op value rest slot) = (leaves rest ≤ LEAVES) × IsProbed op × (value ≢ Complex)
CanBeReady (backward child path parent) = leaves path ≤ LEAVES
CanBeReady (check child path named) = leaves path ≤ LEAVES
CanBeReady filter = Unit {0}
