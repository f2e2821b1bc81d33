-- What an overlay keeps beside the edges that it shows.
use Rattle.std.specs.Prelude.{List}
use Rattle.slab.specs.Slab.{Slab}
use Rattle.lore_base.specs.Databases.{AreAscendingEdges}
use Rattle.edge_layers.specs.Types.{Edge, EdgeRecord, ObjectRecord}
use Rattle.edge_layers.specs.declared.chains.Chains.{Chains}
use Rattle.edge_layers.specs.Lists.{AreLists}
use Rattle.edge_layers.specs.inside.Chains.{AreChains, child_of}

-- the lists are right; the lost edges and the fresh ones ascend, and those of one child are found by chains
pub record IsOverlaid (objects : List ObjectRecord) (records : Slab EdgeRecord) (lost fresh : List Edge) (lost_in fresh_in : Chains)
    : Type 0 where
  pub lists : AreLists objects records
  pub lost_ascend : AreAscendingEdges lost
  pub fresh_ascend : AreAscendingEdges fresh
  pub lost_chained : AreChains child_of lost lost_in.heads.items lost_in.back.items
  pub fresh_chained : AreChains child_of fresh fresh_in.heads.items fresh_in.back.items
