-- The objects whose entries may change.
use Rattle.std.specs.Prelude.{◌≡◌, ◌⊎◌, List, Contains}
use Rattle.std.specs.Ordering.{nat_cmp}
use Rattle.std.specs.declared.cmp.Ordering.{Ordering}
use Rattle.lore_base.specs.Databases.{IsLive}
use Rattle.value_changes.specs.Types.{Oid, Edge, Value}
use Rattle.value_changes.specs.Reads.{IsOldValued}

-- objects in the order of their numbers
abbrev pub oid_cmp : Oid → Oid → Ordering
oid_cmp a b = nat_cmp a.0 b.0

-- the object that an edge enters
abbrev pub child_of : Edge → Oid
child_of edge = edge.child

-- one of the edges enters the object
abbrev pub HasParent : List Edge → Oid → Type 0
HasParent edges oid = (edge : Edge) × Contains edges edge × (edge.child ≡ oid)

-- a value is given to the object, which was live and has an atomic value before or then
abbrev pub IsOldGiven : List (Oid × Value) → List (Oid × Value) → List (Oid × Value) → Oid → Type 0
IsOldGiven objects objects_then given oid = IsLive given oid × IsOldValued objects objects_then oid

-- the object is one of these, or a lost or a fresh edge enters it and it was live and has an atomic value before or then
abbrev pub IsOldTouched : List (Oid × Value) → List (Oid × Value) → List Edge → List Edge → List Oid → Oid → Type 0
IsOldTouched objects objects_then lost fresh oids oid =
    Contains oids oid ⊎ ((HasParent lost oid ⊎ HasParent fresh oid) × IsOldValued objects objects_then oid)
