-- One name or object more, on the way to what differs.
use Rattle.std.specs.Prelude.{◌≡◌, ◌⊎◌, ◌↔◌, ℕ, Bool, false, cond, nat_eq, Option, Some, None, List, [], ◌∷◌, ◌++◌, Contains}
use Rattle.std.specs.BTreeMap.{insert_entry}
use Rattle.lore_base.specs.Bytes.{bytes_cmp}
use Rattle.lore_base.specs.Names.{object_of}
use Rattle.lore_base.specs.Databases.{AreAscendingObjects, IsLive}
use Rattle.graph_changes.specs.Types.{Oid, Value}

-- the object is the one that is told
abbrev pub is_that : Option Oid → Oid → Bool
is_that None oid = false
is_that (Some told) oid = nat_eq told.0 oid.0

-- the names with one more, unless the others have it for the same object
abbrev pub with_only : List (List ℕ × Oid) → List (List ℕ × Oid) → List ℕ × Oid → List (List ℕ × Oid)
with_only others only entry =
    cond (is_that (object_of others entry.0) entry.1) only (insert_entry bytes_cmp only entry.0 entry.1)

-- the object is put behind those that come, unless it is there with this value
abbrev pub IsPutUnlessThere : List (Oid × Value) → Oid × Value → List (Oid × Value) → List (Oid × Value) → Type 0
IsPutUnlessThere old object before now =
    (Contains old object × (now ≡ before)) ⊎ ((¬ Contains old object) × (now ≡ before ++ object ∷ []))

-- the object is put behind the others with its value, where it is there
abbrev pub IsPutWhereThere : List (Oid × Value) → Oid → List (Oid × Value) → List (Oid × Value) → Type 0
IsPutWhereThere old oid before now =
    ((value : Value) × Contains old (oid, value) × (now ≡ before ++ (oid, value) ∷ []))
    ⊎ ((¬ IsLive old oid) × (now ≡ before))

-- the values of those of the objects that are there
pub record AreValuesOf (old : List (Oid × Value)) (oids : List Oid) (values : List (Oid × Value)) : Type 0 where
  pub ascend : AreAscendingObjects values
  pub exact : (object : Oid × Value) → Contains values object ↔ (Contains old object × Contains oids object.0)
