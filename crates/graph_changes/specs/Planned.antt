-- Which edges a change takes away and which it brings.
use Rattle.std.specs.Prelude.{◌≡◌, ◌≤◌, ℕ, List, [], length}
use Rattle.slab.specs.Slab.{Slab}
use Rattle.edge_lists.specs.Commits.{ArePlaces}
use Rattle.edge_layers.specs.EdgeTests.{AreFound}
use Rattle.graph_changes.specs.Types.{Oid, Edge, Changes, EdgeRecord}
use Rattle.graph_changes.specs.Left.{edges_left, AreGone}

-- the edges that go and those that come, from the removed ones that are lost, the added ones that are fresh, and those
-- that leave dead objects
pub record ArePlannedEdges (records : Slab EdgeRecord) (changes : Changes) (dead : List Oid) (gone come : List Edge)
    (by_child keys : List ℕ) (room : ℕ) : Type 0 where
  pub lost : List Edge
  pub lost_absent : List Edge
  pub removed : AreFound records changes.removed lost lost_absent
  pub fresh_there : List Edge
  pub fresh : List Edge
  pub added : AreFound records changes.added fresh_there fresh
  pub goes : AreGone records lost dead gone
  pub comes : come ≡ edges_left dead fresh
  pub places : ArePlaces (length come) by_child
  pub no_keys : keys ≡ []
  pub key_room : length come ≤ room
