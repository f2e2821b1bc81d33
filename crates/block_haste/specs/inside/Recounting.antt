-- Edges counted anew under the numbers of their parents.
use Rattle.std.specs.Prelude.{◌≡◌, ◌≢◌, ◌⊎◌, ℕ, ◌<◌, List, [], ◌∷◌, ◌++◌, length, slice_index, slice_index_or}
use Rattle.std.specs.Prelude.{slice_set, Contains}
use Rattle.block_haste.specs.inside.Tallies.{Key}
use Rattle.block_haste.specs.inside.Marking.{Change}

-- an edge as it is counted under tags
abbrev pub key_under : List ℕ → ℕ × ℕ × ℕ → Key
key_under tags edge = (edge.2, edge.1, slice_index tags edge.0)

-- what enters the edge's node anew by it
abbrev pub event_by : List ℕ → List ℕ → ℕ × ℕ × ℕ → ℕ × Change
event_by tags numbers edge = (edge.2, (edge.1, slice_index tags edge.0, slice_index numbers edge.0))

-- the edge at a place
abbrev pub edge_at : List (ℕ × ℕ × ℕ) → ℕ → ℕ × ℕ × ℕ
edge_at edges place = slice_index_or edges place (0, 0, 0)

abbrev pub key_at : List Key → ℕ → Key
key_at keys place = slice_index_or keys place (0, 0, 0)

-- the key at the place has the number, and nothing changes; or it gets it, and there is an event
abbrev pub IsRecountedAt : ℕ → ℕ × ℕ × ℕ → ℕ → List Key → List (ℕ × Change) → List Key → List (ℕ × Change)
    → Type 0
IsRecountedAt place edge number keys events next more =
    (((key_at keys place).2 ≡ number) × (next ≡ keys) × (more ≡ events))
    ⊎ (((key_at keys place).2 ≢ number) × (next ≡ slice_set keys place (edge.2, edge.1, number))
    × (more ≡ events ++ (edge.2, (edge.1, (key_at keys place).2, number)) ∷ []))

-- the edges at the places are counted under numbers, all others under tags, and there are the events of those
-- that were counted otherwise
pub record IsRecounted (edges : List (ℕ × ℕ × ℕ)) (places tags numbers : List ℕ) (keys : List Key)
    (events : List (ℕ × Change)) : Type 0 where
  pub every : length keys ≡ length edges
  pub either : (place : ℕ) → place < length edges → (key_at keys place ≡ key_under tags (edge_at edges place))
      ⊎ (key_at keys place ≡ key_under numbers (edge_at edges place))
      × Contains events (event_by tags numbers (edge_at edges place))
  pub done : (place : ℕ) → Contains places place → key_at keys place ≡ key_under numbers (edge_at edges place)
  pub sound : (event : ℕ × Change) → Contains events event → (place : ℕ) × (place < length edges)
      × (event ≡ event_by tags numbers (edge_at edges place))
      × (slice_index tags (edge_at edges place).0 ≢ slice_index numbers (edge_at edges place).0)

-- each edge whose parent's number isn't its tag stands at one of the places
abbrev pub IsCovered : List (ℕ × ℕ × ℕ) → List ℕ → List ℕ → List ℕ → Type 0
IsCovered edges tags numbers places = (place : ℕ) → place < length edges
    → (slice_index tags (edge_at edges place).0 ≡ slice_index numbers (edge_at edges place).0)
    ⊎ Contains places place
