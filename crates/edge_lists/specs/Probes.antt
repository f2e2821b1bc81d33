-- Records further along a list, which are looked for all over the slab.
use Rattle.std.specs.Prelude.{◌≡◌, ◌⊎◌, ℕ, Some, List, Contains}
use Rattle.std.specs.declared.cmp.Ordering.TheVariants.{Less}
use Rattle.slab.specs.Slab.{Slab}
use Rattle.edge_lists.specs.Types.{Edge, Side, EdgeRecord}
use Rattle.edge_lists.specs.Edges.{side_cmp, Precedes}
use Rattle.edge_lists.specs.Records.{LiesAt}
use Rattle.edge_lists.specs.Chains.{IsStart, WaitAmong}

-- the record at the key stands before the edge in its order
abbrev pub LiesBefore : Side → Slab EdgeRecord → ℕ → Edge → Type 0
LiesBefore side records key edge = (before : Edge) × LiesAt records key before × Precedes side before edge

-- of two records before the edge in the same list the second comes behind the first, and its edge is none of these
pub record IsLater (side : Side) (records : Slab EdgeRecord) (edge : Edge) (come : List Edge) (here there : ℕ) : Type 0 where
  pub later : Edge
  pub lies : LiesAt records there later
  pub before : Precedes side later edge
  pub behind : LiesBefore side records here later
  pub other : ¬ Contains come later

-- an edge is looked for from the second record as well as from the first, and no earlier
pub record IsFurther (side : Side) (records : Slab EdgeRecord) (edge : Edge) (come : List Edge) (here there : ℕ) : Type 0 where
  pub start : (waiting : List ℕ) → WaitAmong side records waiting edge come
      → IsStart side records waiting edge (Some here) → IsStart side records waiting edge (Some there)
  pub behind : (first : Edge) → LiesAt records here first
      → (second : Edge) × LiesAt records there second × ((first ≡ second) ⊎ (side_cmp side first second ≡ Less))
