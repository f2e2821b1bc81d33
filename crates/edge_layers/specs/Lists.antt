-- The lists of a graph's edges.
use Rattle.std.specs.Prelude.{List, []}
use Rattle.slab.specs.Slab.{Slab}
use Rattle.edge_layers.specs.Types.{Out, In, EdgeRecord, ObjectRecord}
use Rattle.edge_lists.specs.Objects.{AreAscendingObjects}
use Rattle.edge_lists.specs.Chains.{AreChained}

-- objects ascend, and each record stands once in the out list of its parent and in the in list of its child, both of
-- which ascend
pub record AreLists (objects : List ObjectRecord) (records : Slab EdgeRecord) : Type 0 where
  pub ascend : AreAscendingObjects objects
  pub out : AreChained Out objects records []
  pub entering : AreChained In objects records []
