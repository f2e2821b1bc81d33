-- One object after another given a value, or taken out.
use Rattle.std.specs.Prelude.{◌≡◌, ◌⊎◌, ◌↔◌, ◌≢◌, ◌==◌, ◌<◌, ℕ, not, List, [], ◌∷◌, ◌++◌, length, take}
use Rattle.std.specs.Prelude.{Contains, filter, slice_index_or, slice_set}
use Rattle.lore_base.specs.Databases.{IsLive}
use Rattle.value_orders.specs.Types.{Oid, Value}
use Rattle.value_orders.specs.Held.{AscendByObject, has_value, ArePut, less_objects}

-- one object has the value that is given, and the others have theirs
pub record IsPut (given : Oid × Value) (old new : List (Oid × Value)) : Type 0 where
  pub ascend : AscendByObject new
  pub members : (object : Oid × Value)
      → Contains new object ↔ ((object ≡ given) ⊎ (Contains old object × (object.0 ≢ given.0)))

-- the objects but this one
abbrev pub less_object : Oid → List (Oid × Value) → List (Oid × Value)
less_object oid values = filter (λ object. not (oid.0 == object.0.0)) values

-- the object's value stands in place of the one that it has among so many at the front, or else behind all
abbrev pub IsSetOrPushed : ℕ → Oid × Value → List (Oid × Value) → List (Oid × Value) → Type 0
IsSetOrPushed known object old new =
    ((place : ℕ) × (place < known) × ((slice_index_or old place object).0.0 ≡ object.0.0) × (new ≡ slice_set old place object))
    ⊎ ((¬ IsLive (take known old) object.0) × (new ≡ old ++ object ∷ []))

-- of the objects that are given the ones before the rest have these values: those that had some, in their places, and
-- the others behind all
pub record IsPutBehind (given rest old new : List (Oid × Value)) : Type 0 where
  pub done : List (Oid × Value)
  pub front : List (Oid × Value)
  pub parts : given ≡ done ++ rest
  pub long : length front ≡ length old
  pub put_ones : ArePut (filter (λ object. has_value old object.0) done) old front
  pub is : new ≡ front ++ less_objects old done
