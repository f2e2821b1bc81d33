-- Edges with their places.
use Rattle.std.specs.Prelude.{◌≡◌, ℕ, ◌<◌, List, length, slice_index_or}
use Rattle.edge_layers.specs.Types.{Edge, In}
use Rattle.edge_layers.specs.declared.places.Placed.{Placed}
use Rattle.edge_layers.specs.Turned.{turn}

-- the edges turned round, each with its place
pub record ArePlaced (edges : List Edge) (placed : List Placed) : Type 0 where
  pub count : length placed ≡ length edges
  pub turned : (k : ℕ) (d : Placed) (e : Edge) → k < length placed → (slice_index_or placed k d).edge ≡ turn In (slice_index_or edges k e)
  pub places : (k : ℕ) (d : Placed) → k < length placed → (slice_index_or placed k d).place ≡ k
