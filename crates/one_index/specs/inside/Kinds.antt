-- Kinds of objects: objects with the same names are of one kind, and no others.
use Rattle.std.specs.Prelude.{◌≡◌, ◌⊎◌, ℕ, ◌+◌, List, Some, length, slice_get, slice_index, slice_set, Contains}
use Rattle.one_index.specs.Types.{Oid}

-- each named object has a kind of its own, and all others have one together
pub record AreKinds (objects named : List Oid) (kinds : List ℕ) : Type 0 where
  pub every : length kinds ≡ length objects
  pub either : (place : ℕ) (oid : Oid) → slice_get objects place ≡ Some oid
      → (Contains named oid × (slice_index kinds place ≡ place + 1))
      ⊎ ((Contains named oid → ⊥) × (slice_index kinds place ≡ 0))

-- the place of the object has got a kind of its own, where it has one
abbrev pub IsKindSet : List Oid → Oid → List ℕ → List ℕ → Type 0
IsKindSet objects oid old new =
    ((place : ℕ) × (slice_get objects place ≡ Some oid) × (new ≡ slice_set old place (place + 1)))
    ⊎ ((Contains objects oid → ⊥) × (new ≡ old))
