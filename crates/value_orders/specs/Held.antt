-- Objects with their values, in the order of the objects, each once.
use Rattle.std.specs.Prelude.{◌⊎◌, ◌↔◌, ◌==◌, cond, Bool, not, List, [], ◌∷◌, Option, Some, None, is_some, unwrap_or}
use Rattle.std.specs.Prelude.{Contains, filter}
use Rattle.std.specs.Ordering.{nat_cmp}
use Rattle.std.specs.declared.cmp.Ordering.{Ordering}
use Rattle.lore_base.specs.Databases.{IsLive}
use Rattle.sorted_list.specs.SortedLists.{Ascends}
use Rattle.value_orders.specs.Types.{Oid, Value, Complex}

-- the order of objects
abbrev pub object_cmp : Oid × Value → Oid × Value → Ordering
object_cmp a b = nat_cmp a.0.0 b.0.0

abbrev pub AscendByObject : List (Oid × Value) → Type 0
AscendByObject values = Ascends object_cmp values

-- the object's value, where it has one
abbrev pub value_in : List (Oid × Value) → Oid → Option Value
value_in [] oid = None
value_in (first ∷ values) oid = cond (first.0.0 == oid.0) (Some first.1) (value_in values oid)

-- or else one that no order holds
abbrev pub held : List (Oid × Value) → Oid → Value
held values oid = unwrap_or (value_in values oid) Complex

-- whether it has one
abbrev pub has_value : List (Oid × Value) → Oid → Bool
has_value values oid = is_some (value_in values oid)

-- objects have the values that are given, and the others have theirs
pub record ArePut (given old new : List (Oid × Value)) : Type 0 where
  pub ascend : AscendByObject new
  pub members : (object : Oid × Value)
      → Contains new object ↔ (Contains given object ⊎ (Contains old object × (¬ IsLive given object.0)))

-- the objects that don't leave
abbrev pub less_objects : List (Oid × Value) → List (Oid × Value) → List (Oid × Value)
less_objects leaving values = filter (λ object. not (has_value leaving object.0)) values
