-- What a condition tells of a row before each of its slots is filled.
use Rattle.std.specs.Prelude.{◌≡◌, ◌<◌, ℕ, Bool, true, List, length, Some, AllPairs, Contains, slice_get}
use Rattle.index_traits.specs.Types.{Oid, RANGES}

-- two rows have the same objects in the known slots
abbrev pub AgreeOn : List Bool → List Oid → List Oid → Type 0
AgreeOn known a b = (slot : ℕ) → slice_get known slot ≡ Some true → slice_get a slot ≡ slice_get b slot

-- a row that passes and has the row's objects in the known slots
pub record Completes (Passes : List Oid → Type 0) (known : List Bool) (row other : List Oid) : Type 0 where
  pub eight : length other ≡ RANGES
  pub agree : AgreeOn known row other
  pub passes : Passes other

-- no row passes that has the row's objects in the known slots
abbrev pub NonePasses : (List Oid → Type 0) → List Bool → List Oid → Type 0
NonePasses Passes known row = (other : List Oid) → Completes Passes known row other → ⊥

-- they ascend, and each row that passes and has the row's objects in the known slots has one of them in the slot
pub record AreAllThatFit (Passes : List Oid → Type 0) (known : List Bool) (slot : ℕ) (row oids : List Oid) : Type 0 where
  pub ascend : AllPairs (λ a b. a.0 < b.0) oids
  pub all : (other : List Oid) → Completes Passes known row other
      → (oid : Oid) × (slice_get other slot ≡ Some oid) × Contains oids oid
