-- Objects that are left out of those for a slot, since it is told early that none of them can stand there.
use Rattle.std.specs.Prelude.{◌≡◌, ℕ, ◌<◌, ◌⊎◌, Bool, List, Option, Some, None, AllPairs, Contains, slice_get}
use Rattle.index_traits.specs.PartRows.{Completes}
use Rattle.row_hints.specs.Types.{Oid}

-- no row passes that has the row's objects in the known slots and this object in the slot
abbrev pub FailsWith : (List Oid → Type 0) → List Bool → ℕ → List Oid → Oid → Type 0
FailsWith Passes known slot row oid =
    (other : List Oid) → Completes Passes known row other → slice_get other slot ≡ Some oid → ⊥

-- these are left of the objects, in order: all but some that fail
pub record AreThinned (Fails : Oid → Type 0) (oids kept : List Oid) : Type 0 where
  pub ascending : AllPairs (λ a b. a.0 < b.0) kept
  pub sound : (oid : Oid) → Contains kept oid → Contains oids oid
  pub complete : (oid : Oid) → Contains oids oid → Contains kept oid ⊎ Fails oid

-- the objects that were kept; all of them where there is no list of these
abbrev pub kept_of : Option (List Oid) → List Oid → List Oid
kept_of None oids = oids
kept_of (Some kept) oids = kept
