-- What a plan keeps beside what it leads to.
use Rattle.std.specs.Prelude.{◌≡◌, ◌≤◌, ℕ, List, [], map, length, All, Contains}
use Rattle.slab.specs.Slab.{Slab}
use Rattle.oem_graph.specs.Types.{Oid, Edge, Value}
use Rattle.lore_base.specs.Databases.{AreAscendingObjects, AreAscendingEdges}
use Rattle.oem_graph.specs.Types.{EdgeRecord, ObjectRecord}
use Rattle.edge_lists.specs.Objects.{object_of}
use Rattle.edge_lists.specs.Views.{edges_of}
use Rattle.edge_lists.specs.Commits.{ArePlaces}
use Rattle.graph_changes.specs.Puts.{with_objects, put_edges}
use Rattle.graph_changes.specs.Left.{AreAscendingOids, not_dead}
use Rattle.edge_layers.specs.Layers.{staying}
use Rattle.edge_layers.specs.Lists.{AreLists}

-- each part of the plan ascends; no dead object is given a value, and no edge goes that comes; the places of the edges
-- that come are told in some order, and there is room for their keys
pub record IsPlan (dead : List Oid) (given : List (Oid × Value)) (gone come : List Edge) (by_child keys : List ℕ) (room : ℕ)
    : Type 0 where
  pub dead_ascend : AreAscendingOids dead
  pub given_ascend : AreAscendingObjects given
  pub given_live : All (λ object. ¬ Contains dead object.0) given
  pub gone_ascend : AreAscendingEdges gone
  pub come_ascend : AreAscendingEdges come
  pub apart : All (λ edge. ¬ Contains gone edge) come
  pub places : ArePlaces (length come) by_child
  pub no_keys : keys ≡ []
  pub key_room : length come ≤ room

-- the lists are right, and so is what there is once the plan is in place
pub record IsRead (objects : List ObjectRecord) (records : Slab EdgeRecord) (dead : List Oid) (given : List (Oid × Value))
    (gone come : List Edge) : Type 0 where
  pub lists : AreLists objects records
  pub dead_ascend : AreAscendingOids dead
  pub given_ascend : AreAscendingObjects given
  pub given_live : All (λ object. ¬ Contains dead object.0) given
  pub gone_ascend : AreAscendingEdges gone
  pub come_ascend : AreAscendingEdges come
  pub objects_ascend : AreAscendingObjects (with_objects (not_dead dead (map object_of objects)) given)
  pub edges_ascend : AreAscendingEdges (put_edges (staying gone (edges_of records)) come)
