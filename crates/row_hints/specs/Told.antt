-- What is told of a slot, whatever stands in the others.
use Rattle.std.specs.Prelude.{◌≡◌, ℕ, ◌<◌, ◌⊎◌, List, length, Option, Some, None, AllPairs, Contains, slice_get, slice_set}
use Rattle.row_hints.specs.Types.{Oid, RANGES, Told, Unasked, Nothing, Fits}

-- they ascend, and each row that passes has one of them in the slot
pub record AreAllInSlot (Passes : List Oid → Type 0) (slot : ℕ) (oids : List Oid) : Type 0 where
  pub ascend : AllPairs (λ a b. a.0 < b.0) oids
  pub all : (row : List Oid) → length row ≡ RANGES → Passes row
      → (oid : Oid) × (slice_get row slot ≡ Some oid) × Contains oids oid

-- the objects that are told for a slot are so
abbrev pub IsTold : (List Oid → Type 0) → ℕ → Told → Type 0
IsTold Passes slot (Unasked seen) = Unit {0}
IsTold Passes slot Nothing = Unit {0}
IsTold Passes slot (Fits oids) = AreAllInSlot Passes slot oids

-- and so for each slot that something is told of
abbrev pub AreTold : (List Oid → Type 0) → List Told → Type 0
AreTold Passes list = (slot : ℕ) (told : Told) → slice_get list slot ≡ Some told → IsTold Passes slot told

-- the condition wasn't asked
abbrev pub IsUnasked : Told → Type 0
IsUnasked (Unasked seen) = Unit {0}
IsUnasked Nothing = ⊥
IsUnasked (Fits oids) = ⊥

-- what is told where the condition gave these objects, or none
abbrev pub told_by : Option (List Oid) → Told
told_by None = Nothing
told_by (Some oids) = Fits oids

-- this was put in place of what was told of the slot, if there is such a slot
abbrev pub IsPut : ℕ → Told → List Told → List Told → Type 0
IsPut slot told old new = (new ≡ old) ⊎ ((slot < length old) × (new ≡ slice_set old slot told))
