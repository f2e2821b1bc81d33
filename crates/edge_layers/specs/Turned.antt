-- Edges turned round, so that the object in whose list they stand comes first.
use Rattle.std.specs.Prelude.{◌≡◌, ◌⊎◌, ◌↔◌, Bool, true, nat_eq, Option, Some, None, List, map, filter, Contains}
use Rattle.slab.specs.Slab.{Slab}
use Rattle.edge_layers.specs.Types.{Oid, Label, Edge}
use Rattle.lore_base.specs.Databases.{AreAscendingEdges}
use Rattle.edge_layers.specs.Types.{Side, Out, In, EdgeRecord}
use Rattle.edge_lists.specs.Records.{HasEdge}

-- the edge as the list of the side has it: its object first
abbrev pub turn : Side → Edge → Edge
turn Out edge = edge
turn In edge = record { parent = edge.child; label = edge.label; child = edge.parent }

-- the turned edges of an object's list, without those that are lost and with those that are fresh
pub record IsLayeredList (side : Side) (records : Slab EdgeRecord) (lost fresh : List Edge) (owner : Oid) (list : List Edge) : Type 0 where
  pub ascend : AreAscendingEdges list
  pub exact : (edge : Edge) → Contains list edge
      ↔ (((HasEdge records (turn side edge) × (¬ Contains lost edge)) ⊎ Contains fresh edge) × (edge.parent ≡ owner))

-- the edge has the label, where one is given
abbrev pub has_label : Option Label → Edge → Bool
has_label None edge = true
has_label (Some given) edge = nat_eq edge.label.0 given.0

-- the edges are those of an object's in list, turned back, with the label where one is given
abbrev pub ListsLayered : Slab EdgeRecord → List Edge → List Edge → Oid → Option Label → List Edge → Type 0
ListsLayered records lost fresh oid given edges = (list : List Edge) × IsLayeredList In records lost fresh oid list
    × (edges ≡ map (turn In) (filter (has_label given) list))
