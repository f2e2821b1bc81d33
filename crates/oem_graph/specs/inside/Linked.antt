-- Graphs whose edges are records in two lists each.
use Rattle.std.specs.Prelude.{ℕ, List, map}
use Rattle.slab.specs.Slab.{Slab}
use Rattle.oem_graph.specs.Types.{Oid, EdgeRecord, ObjectRecord}
use Rattle.edge_lists.specs.Objects.{object_of}
use Rattle.edge_lists.specs.Views.{edges_of}
use Rattle.edge_layers.specs.Lists.{AreLists}
use Rattle.oem_graph.specs.Graphs.{IsIndexable}

-- the lists are right, and the graph is in order
pub record IsLinkedGraph (names : List (List ℕ × Oid)) (objects : List ObjectRecord) (records : Slab EdgeRecord) (next : ℕ)
    : Type 0 where
  pub lists : AreLists objects records
  pub indexable : IsIndexable (record { names = names; objects = map object_of objects; edges = edges_of records; next = next })
