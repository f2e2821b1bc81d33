-- The edges that enter given objects.
use Rattle.std.specs.Prelude.{◌↔◌, List, Contains}
use Rattle.read_costs.specs.Types.{Oid, Edge}

-- the edges of the list that enter one of these objects, in any order, perhaps some more than once
pub record AreEntering (edges : List Edge) (oids : List Oid) (entering : List Edge) : Type 0 where
  pub exact : (edge : Edge) → Contains entering edge ↔ (Contains edges edge × Contains oids edge.child)
