-- Gaps between objects.
use Rattle.std.specs.Prelude.{◌<◌, ◌≤◌, ℕ, List, length, slice_index_or}
use Rattle.graph_changes.specs.Types.{Oid, ObjectRecord}

-- the object would stand before what is at the place: those before it are lower, and those from it on higher
pub record IsGap (objects : List ObjectRecord) (oid : Oid) (place : ℕ) : Type 0 where
  pub within : place ≤ length objects
  pub below : (k : ℕ) (d : ObjectRecord) → k < place → (slice_index_or objects k d).oid.0 < oid.0
  pub above : (k : ℕ) (d : ObjectRecord) → place ≤ k → k < length objects → oid.0 < (slice_index_or objects k d).oid.0
