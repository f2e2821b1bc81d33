-- Objects with the heads of their lists.
use Rattle.std.specs.Prelude.{◌≡◌, ◌≢◌, ◌<◌, ℕ, Option, None, List, [], ◌∷◌, map, cond, nat_eq, AllPairs, Contains}
use Rattle.edge_lists.specs.Types.{Oid, Value, Side, Out, In, ObjectRecord}

-- an object that has no edges
abbrev pub bare : Oid → Value → ObjectRecord
bare oid value = record { oid = oid; value = value; first_out = None; first_in = None }

-- the head of one of an object's lists
abbrev pub first_of : Side → ObjectRecord → Option ℕ
first_of Out o = o.first_out
first_of In o = o.first_in

abbrev pub with_first : Side → Option ℕ → ObjectRecord → ObjectRecord
with_first Out link o = record o { first_out = link }
with_first In link o = record o { first_in = link }

-- the head of the object's list; none where it isn't live
abbrev pub head_of : Side → List ObjectRecord → Oid → Option ℕ
head_of side [] oid = None
head_of side (o ∷ objects) oid = cond (nat_eq o.oid.0 oid.0) (first_of side o) (head_of side objects oid)

-- an object and its value
abbrev pub object_of : ObjectRecord → Oid × Value
object_of o = (o.oid, o.value)

abbrev pub AreAscendingObjects : List ObjectRecord → Type 0
AreAscendingObjects objects = AllPairs (λ a b. a.oid.0 < b.oid.0) objects

abbrev pub IsLive : List ObjectRecord → Oid → Type 0
IsLive objects oid = Contains (map (λ o. o.oid) objects) oid

-- one head is set, and all else is as it was
pub record IsHeaded (old : List ObjectRecord) (side : Side) (oid : Oid) (link : Option ℕ) (new : List ObjectRecord) : Type 0 where
  pub objects : map object_of new ≡ map object_of old
  pub ascend : AreAscendingObjects new
  pub head : head_of side new oid ≡ link
  pub others : (x : Oid) → x ≢ oid → head_of side new x ≡ head_of side old x
  pub other_side : (s : Side) → s ≢ side → (x : Oid) → head_of s new x ≡ head_of s old x
