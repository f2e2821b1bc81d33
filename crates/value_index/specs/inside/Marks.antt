-- Objects that are marked by a complex value.
use Rattle.std.specs.Prelude.{Bool, true, false, cond, ◌==◌, ◌&&◌, List}
use Rattle.value_index.specs.Types.{Oid, Value, Whole, Chars, Flag, Complex, Entry, Kind}
use Rattle.value_orders.specs.Kinds.{is_of}
use Rattle.value_index.specs.inside.Leaving.{names}

abbrev pub is_complex : Value → Bool
is_complex (Whole number) = false
is_complex (Chars text) = false
is_complex (Flag flag) = false
is_complex Complex = true

-- an object whose value is complex where the test says so
abbrev pub marked_if : Bool → Oid × Value → Oid × Value
marked_if test object = (object.0, cond test Complex object.1)

-- an object, marked if it is this one and its value is of the kind
abbrev pub marked : Kind → Oid → Oid × Value → Oid × Value
marked kind oid object = marked_if ((oid.0 == object.0.0) && is_of kind object.1) object

-- or if an entry names it and its value is of the kind
abbrev pub marked_by : Kind → List Entry → Oid × Value → Oid × Value
marked_by kind entries object = marked_if (names entries object.0 && is_of kind object.1) object
