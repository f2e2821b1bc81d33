-- Laws of changes: what they leave is determined, exists, is well-formed, and is valid where the limits are kept.
use Rattle.std.specs.Prelude.{◌≡◌, ◌+◌, ◌≤◌, List, ◌++◌, length}
use Rattle.lore_base.specs.Databases.{OemGraph, Database, IsWellFormed, IsRooted, IsValid}
use Rattle.lore_base.specs.GuideLimits.{FitsGuide}
use Rattle.lore_base.specs.ChangeSets.{FitsGraph, Fits, IsGraphAfter, IsAfter, AreSame}
use Rattle.oem_changes.specs.Types.{Edge, Changes, NAMES, OBJECTS, EDGES}
use Rattle.oem_changes.specs.Growth.{Grows}

-- changes leave one graph
abbrev pub ChangesLeaveOne : Type 0
ChangesLeaveOne = (before : OemGraph) (changes : Changes) (after other : OemGraph)
    → IsGraphAfter before changes after → IsGraphAfter before changes other → after ≡ other

-- the same one, in whichever order and how often they list edges
abbrev pub SameChangesLeaveOne : Type 0
SameChangesLeaveOne = (before : OemGraph) (first second : Changes) (after other : OemGraph) → AreSame first second
    → IsGraphAfter before first after → IsGraphAfter before second other → after ≡ other

-- changes that fit leave some
abbrev pub ChangesLeaveSome : Type 0
ChangesLeaveSome = (before : OemGraph) (changes : Changes) → IsWellFormed before → FitsGraph before changes
    → (after : OemGraph) × IsGraphAfter before changes after

-- which is well-formed, and has no object that no name walks to
abbrev pub ChangesKeepRooted : Type 0
ChangesKeepRooted = (before : OemGraph) (changes : Changes) (after : OemGraph)
    → IsWellFormed before → FitsGraph before changes → IsGraphAfter before changes after → IsRooted after

-- changes that fit a valid database, and keep to the limits on names, objects, edges and the sets of a guide, leave a
-- valid one
abbrev pub ChangesKeepValid : Type 0
ChangesKeepValid = (before : Database) (changes : Changes) (after : Database)
    → IsValid before → Fits before changes → IsAfter before changes after
    → length after.graph.names ≤ NAMES → length after.graph.objects ≤ OBJECTS → length after.graph.edges ≤ EDGES
    → FitsGuide after.nodes after.graph.names after.graph.edges
    → IsValid after

-- what the changes leave: the names of before, the objects of before and those made, and so many edges more
pub record IsGrown (before : OemGraph) (changes : Changes) (fresh : List Edge) (after : OemGraph) : Type 0 where
  pub leaves : IsGraphAfter before changes after
  pub names : after.names ≡ before.names
  pub objects : after.objects ≡ before.objects ++ changes.made
  pub edges : length after.edges ≡ length before.edges + length fresh

-- changes that only make objects and add edges leave a graph with just these more
abbrev pub ChangesGrow : Type 0
ChangesGrow = (before : OemGraph) (changes : Changes) (fresh : List Edge)
    → IsRooted before → Grows before changes fresh → (after : OemGraph) × IsGrown before changes fresh after
