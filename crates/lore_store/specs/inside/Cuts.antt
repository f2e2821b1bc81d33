-- The children of edges that are cut, and what enters them then.
use Rattle.std.specs.Prelude.{◌≡◌, ◌↔◌, ℕ, ◌+◌, List, map, sum_by, Contains}
use Rattle.lore_base.specs.declared.edges.Oid.{Oid}
use Rattle.lore_base.specs.declared.edges.Edge.{Edge}
use Rattle.lore_base.specs.declared.values.Value.{Value}
use Rattle.lore_base.specs.Databases.{IsLive, AreAscendingEdges}
use Rattle.lore_base.specs.TargetSets.{ListsInOrder}
use Rattle.read_costs.specs.ReadCosts.{in_reads}

-- the objects that edges enter
abbrev pub children_of : List Edge → List Oid
children_of edges = map (λ edge. edge.child) edges

-- the list has those of the edges that leave a live object
abbrev pub AreLiving : List Edge → List (Oid × Value) → List Edge → Type 0
AreLiving edges objects living =
    (edge : Edge) → Contains living edge ↔ (Contains edges edge × IsLive objects edge.parent)

-- listed in order are those of the edges that enter one of the objects and leave a live object
pub record AreCutLinks (edges : List Edge) (objects : List (Oid × Value)) (oids : List Oid) (entering : List Edge) : Type 0 where
  pub ascend : AreAscendingEdges entering
  pub exact : (edge : Edge) → Contains entering edge
      ↔ ((Contains edges edge × Contains oids edge.child) × IsLive objects edge.parent)

-- the children of the cut edges were read, each once by the edges that enter it
pub record ReadsChildren (edges cut : List Edge) (before now : ℕ) : Type 0 where
  pub oids : List Oid
  pub children : ListsInOrder (Contains (children_of cut)) oids
  pub counted : AreAscendingEdges edges → now ≡ before + sum_by (in_reads edges) oids
