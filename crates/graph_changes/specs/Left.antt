-- What is left of objects and edges where some objects are dead and others have new values.
use Rattle.std.specs.Prelude.{◌≡◌, ◌⊎◌, ◌↔◌, ◌<◌, Bool, not, nat_eq, List, ◌++◌, filter, AllPairs, Contains}
use Rattle.std.specs.List.{list_any}
use Rattle.slab.specs.Slab.{Slab}
use Rattle.graph_changes.specs.Types.{Oid, Edge, Value, Changes, EdgeRecord}
use Rattle.lore_base.specs.Databases.{AreAscendingObjects, AreAscendingEdges}
use Rattle.edge_lists.specs.Records.{HasEdge}

-- numbers ascend
abbrev pub AreAscendingOids : List Oid → Type 0
AreAscendingOids oids = AllPairs (λ a b. a.0 < b.0) oids

-- the object is one of these
abbrev pub is_among : List Oid → Oid → Bool
is_among oids oid = list_any (λ other. nat_eq oid.0 other.0) oids

-- given values by ascending objects
pub record AreOrdered (given values : List (Oid × Value)) : Type 0 where
  pub ascend : AreAscendingObjects values
  pub members : (object : Oid × Value) → Contains values object ↔ Contains given object

-- those of the objects that aren't dead
abbrev pub not_dead : List Oid → List (Oid × Value) → List (Oid × Value)
not_dead dead objects = filter (λ object. not (is_among dead object.0)) objects

-- the values that are given to living objects, in some order of theirs, and behind them the living made objects
abbrev pub ListsGiven : Changes → List Oid → List (Oid × Value) → Type 0
ListsGiven changes dead given = (values : List (Oid × Value)) × AreOrdered changes.values values
    × (given ≡ not_dead dead values ++ not_dead dead changes.made)

-- the edges whose parent isn't dead
abbrev pub edges_left : List Oid → List Edge → List Edge
edges_left dead edges = filter (λ edge. not (is_among dead edge.parent)) edges

-- the edges that are lost, and those that leave dead objects
pub record AreGone (records : Slab EdgeRecord) (lost : List Edge) (dead : List Oid) (gone : List Edge) : Type 0 where
  pub ascend : AreAscendingEdges gone
  pub exact : (edge : Edge) → Contains gone edge
      ↔ (Contains lost edge ⊎ (HasEdge records edge × Contains dead edge.parent))
