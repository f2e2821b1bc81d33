-- Objects whose values are given, and objects that are taken away.
use Rattle.std.specs.Prelude.{◌≡◌, not, List, filter, map}
use Rattle.graph_changes.specs.Types.{Oid, Value, Side, ObjectRecord}
use Rattle.edge_lists.specs.Objects.{object_of, head_of, AreAscendingObjects, IsLive}
use Rattle.graph_changes.specs.Puts.{with_objects}
use Rattle.graph_changes.specs.Left.{is_among}

-- the objects have the values that are given, and those that are new have no edges
pub record ArePutIn (given : List (Oid × Value)) (old new : List ObjectRecord) : Type 0 where
  pub ascend : AreAscendingObjects new
  pub objects : map object_of new ≡ with_objects (map object_of old) given
  pub kept : (oid : Oid) → IsLive old oid → IsLive new oid
  pub heads : (side : Side) (oid : Oid) → head_of side new oid ≡ head_of side old oid

-- dead objects are taken away
abbrev pub AreDropped : List Oid → List ObjectRecord → List ObjectRecord → Type 0
AreDropped dead old new = new ≡ filter (λ object. not (is_among dead object.oid)) old
