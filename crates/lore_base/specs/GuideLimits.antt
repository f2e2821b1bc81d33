-- The limits on a guide: how many sets label paths lead to, and how many members these have in all. The sets are counted
-- in the order of their least label paths, and the first that doesn't fit tells which limit is passed.
use Rattle.std.specs.Prelude.{◌≢◌, ◌⊎◌, ℕ, ◌+◌, ◌<◌, ◌≤◌, List, [], ◌∷◌, ◌++◌, length, sum_by, All, AllPairs, Contains}
use Rattle.std.specs.List.{AllZip}
use Rattle.lore_base.specs.Types.{Oid, Edge, CELLS}
use Rattle.lore_base.specs.TargetSets.{LabelPath, LeadsTo, IsLedTo}
use Rattle.lore_base.specs.PathOrder.{ComesBefore, IsLeastPath}

-- the members of all sets together
abbrev pub cells : List (List Oid) → ℕ
cells sets = sum_by length sets

-- there are no more sets than the limit, and they have no more members than there may be
pub record KeepLimits (limit : ℕ) (sets : List (List Oid)) : Type 0 where
  pub few : length sets ≤ limit
  pub small : cells sets ≤ CELLS

-- the guide fits: whatever sets label paths lead to, each once, keep the limits
abbrev pub FitsGuide : ℕ → List (List ℕ × Oid) → List Edge → Type 0
FitsGuide limit names edges =
    (sets : List (List Oid)) → AllPairs (λ a b. a ≢ b) sets → All (IsLedTo names edges) sets → KeepLimits limit sets

-- of all sets that label paths lead to, these are the first, in the order of their least paths
pub record AreFirstSets (names : List (List ℕ × Oid)) (edges : List Edge) (sets : List (List Oid)) : Type 0 where
  pub paths : List LabelPath
  pub least : AllZip (IsLeastPath names edges) paths sets
  pub ascending : AllPairs ComesBefore paths
  pub others : (path : LabelPath) (set : List Oid) → LeadsTo names edges path set
      → Contains sets set ⊎ All (λ first. ComesBefore first path) paths

-- the first sets keep the limits, and the next one is one more than the limit
pub record ExceedsNodes (limit : ℕ) (names : List (List ℕ × Oid)) (edges : List Edge) : Type 0 where
  pub sets : List (List Oid)
  pub next : List Oid
  pub first : AreFirstSets names edges (sets ++ next ∷ [])
  pub kept : KeepLimits limit sets
  pub passed : limit ≤ length sets

-- the first sets keep the limits, and with the next one, for which there is room among the nodes, there are too many
-- members
pub record ExceedsCells (limit : ℕ) (names : List (List ℕ × Oid)) (edges : List Edge) : Type 0 where
  pub sets : List (List Oid)
  pub next : List Oid
  pub first : AreFirstSets names edges (sets ++ next ∷ [])
  pub kept : KeepLimits limit sets
  pub room : length sets < limit
  pub passed : CELLS < cells sets + length next
