-- Laws of target sets and guides: that they exist, and whether they keep the limits on a guide.
use Rattle.std.specs.Prelude.{◌⊎◌, ◌↔◌, ℕ, List}
use Rattle.lore_base.specs.Names.{IsNameTable}
use Rattle.dataguide.specs.Types.{Oid, Edge}
use Rattle.lore_base.specs.TargetSets.{AreTargetSets}
use Rattle.lore_base.specs.PathOrder.{AreInPathOrder}
use Rattle.lore_base.specs.GuideLimits.{KeepLimits, FitsGuide, ExceedsNodes, ExceedsCells}
use Rattle.dataguide.specs.Guides.{GuideGraph, StandsFor, IsOrderedGuide}

-- there is a list of all sets that label paths lead to
abbrev pub TargetSetsExist : Type 0
TargetSetsExist =
    (names : List (List ℕ × Oid)) (edges : List Edge)
    → (sets : List (List Oid)) × AreTargetSets names edges sets

-- a guide fits exactly where the list of all sets keeps the limits
abbrev pub FitsAreCounted : Type 0
FitsAreCounted =
    (limit : ℕ) (names : List (List ℕ × Oid)) (edges : List Edge) (sets : List (List Oid))
    → AreTargetSets names edges sets → FitsGuide limit names edges ↔ KeepLimits limit sets

-- a guide fits, or it doesn't
abbrev pub FitsAreTold : Type 0
FitsAreTold =
    (limit : ℕ) (names : List (List ℕ × Oid)) (edges : List Edge)
    → FitsGuide limit names edges ⊎ (FitsGuide limit names edges → ⊥)

-- where a guide doesn't fit, it passes a limit
abbrev pub GuidesFitOrPass : Type 0
GuidesFitOrPass =
    (limit : ℕ) (names : List (List ℕ × Oid)) (edges : List Edge) → IsNameTable names
    → FitsGuide limit names edges ⊎ (ExceedsNodes limit names edges ⊎ ExceedsCells limit names edges)

-- a guide that fits passes none
abbrev pub FittingPassesNone : Type 0
FittingPassesNone =
    (limit : ℕ) (names : List (List ℕ × Oid)) (edges : List Edge) → FitsGuide limit names edges
    → (ExceedsNodes limit names edges ⊎ ExceedsCells limit names edges) → ⊥

-- and no guide passes both
abbrev pub OneLimitIsPassed : Type 0
OneLimitIsPassed =
    (limit : ℕ) (names : List (List ℕ × Oid)) (edges : List Edge)
    → ExceedsNodes limit names edges → ExceedsCells limit names edges → ⊥

-- some guide stands for each database
abbrev pub GuidesExist : Type 0
GuidesExist =
    (names : List (List ℕ × Oid)) (edges : List Edge)
    → (guide : GuideGraph) × StandsFor guide names edges

-- and they can be listed in the order of their least paths
abbrev pub OrderedSetsExist : Type 0
OrderedSetsExist =
    (names : List (List ℕ × Oid)) (edges : List Edge) → IsNameTable names
    → (sets : List (List Oid)) × AreTargetSets names edges sets × AreInPathOrder names edges sets

-- some guide whose nodes stand in that order stands for each database
abbrev pub OrderedGuidesExist : Type 0
OrderedGuidesExist =
    (names : List (List ℕ × Oid)) (edges : List Edge) → IsNameTable names
    → (guide : GuideGraph) × IsOrderedGuide guide names edges
