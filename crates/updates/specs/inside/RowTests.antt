-- Tests of the rows of an update.
use Rattle.std.specs.Prelude.{List, Option, Some, None, Bool, true, false, ◌==◌, if◌then◌else◌}
use Rattle.std.specs.List.{list_any}
use Rattle.updates.specs.Types.{Oid, Edge, Value}
use Rattle.lore_base.specs.Databases.{is_complex}
use Rattle.updates.specs.Effects.{Pair, is_atomic}

-- whether an edge leaves the object
abbrev pub has_child : List Edge → Oid → Bool
has_child edges oid = list_any (λ edge. edge.parent.0 == oid.0) edges

-- whether an edge leaves the target of some row
abbrev pub any_parent : List Edge → List Pair → Bool
any_parent edges rows = list_any (λ row. has_child edges row.0) rows

-- whether the target of some row has an atomic value
abbrev pub any_atomic : List (Oid × Value) → List Pair → Bool
any_atomic objects rows = list_any (λ row. is_atomic objects row.0) rows

-- whether the row has an object on its right side, and a target with an atomic value
abbrev pub links_atom : List (Oid × Value) → Pair → Bool
links_atom objects (parent, None) = false
links_atom objects (parent, Some child) = is_atomic objects parent

abbrev pub any_atomic_link : List (Oid × Value) → List Pair → Bool
any_atomic_link objects rows = list_any (links_atom objects) rows

-- whether the value is atomic and an edge leaves the target of some row
abbrev pub hides_children : List Edge → Value → List Pair → Bool
hides_children edges value rows = if is_complex value then false else any_parent edges rows
