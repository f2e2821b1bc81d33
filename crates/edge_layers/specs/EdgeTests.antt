-- Tests of edges: whether two are the same, whether one stands in a list, and which ones are records.
use Rattle.std.specs.Prelude.{Bool, ◌&&◌, nat_eq, ◌⊎◌, ◌↔◌, List, Contains}
use Rattle.std.specs.List.{list_any}
use Rattle.slab.specs.Slab.{Slab}
use Rattle.edge_layers.specs.Types.{Edge}
use Rattle.lore_base.specs.Databases.{AreAscendingEdges}
use Rattle.edge_layers.specs.Types.{EdgeRecord}
use Rattle.edge_lists.specs.Records.{HasEdge}

-- the same parent, label and child
abbrev pub edge_eq : Edge → Edge → Bool
edge_eq a b = nat_eq a.parent.0 b.parent.0 && (nat_eq a.label.0 b.label.0 && nat_eq a.child.0 b.child.0)

-- the edge stands in the list
abbrev pub is_listed : List Edge → Edge → Bool
is_listed edges edge = list_any (edge_eq edge) edges

-- the edges that are records, and those that aren't, each in ascending order
pub record AreFound (records : Slab EdgeRecord) (edges there absent : List Edge) : Type 0 where
  pub there_ascend : AreAscendingEdges there
  pub there_exact : (edge : Edge) → Contains there edge ↔ (Contains edges edge × HasEdge records edge)
  pub absent_ascend : AreAscendingEdges absent
  pub absent_exact : (edge : Edge) → Contains absent edge ↔ (Contains edges edge × (¬ HasEdge records edge))

-- the removed edges that are kept, in ascending order
pub record AreLost (kept removed lost : List Edge) : Type 0 where
  pub ascend : AreAscendingEdges lost
  pub members : (edge : Edge) → Contains lost edge ↔ (Contains removed edge × Contains kept edge)

-- the added edges that are not kept, in ascending order
pub record AreFresh (kept added fresh : List Edge) : Type 0 where
  pub ascend : AreAscendingEdges fresh
  pub come : (edge : Edge) → Contains fresh edge → Contains added edge × (¬ Contains kept edge)
  pub rest : (edge : Edge) → Contains added edge → Contains kept edge ⊎ Contains fresh edge
