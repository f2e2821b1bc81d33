-- What a table has under whole numbers, and what it answers.
use Rattle.std.specs.Prelude.{◌≡◌, ◌<◌, ◌-◌, ℤ, List, length, Some, FitsSigned, AllPairs, Contains, slice_get}
use Rattle.std.specs.Int.{w64}
use Rattle.lore_base.specs.Walks.{Walk}
use Rattle.index_traits.specs.Entries.{IsFound}
use Rattle.join_tables.specs.Types.{Oid, Label, Edge, Value, Whole, Eq, ValueEntry}

-- the entries have the values of the objects
abbrev pub AreValuesOf : List (Oid × Value) → List ValueEntry → Type 0
AreValuesOf objects entries = (entry : ValueEntry) → Contains entries entry → Contains objects (entry.object, entry.value)

-- each object from which the word is walked to one that has a value under the label which is equal to a number of 64 bits with
-- a sign stands under that number
abbrev pub HasPartners : List Edge → List ValueEntry → List Label → Label → List (ℤ × Oid) → Type 0
HasPartners links entries word label rows =
    (number : ℤ) (end oid : Oid) → FitsSigned w64 number → IsFound entries label Eq (Whole number) end → Walk links oid word end
    → Contains rows (number, oid)

-- and so for values under the last label of the word
abbrev pub IsTableBy : List Edge → List ValueEntry → List Label → List (ℤ × Oid) → Type 0
IsTableBy links entries word rows = (last : Label) × (slice_get word (length word - 1) ≡ Some last) × HasPartners links entries word last rows

-- the value is a whole number, of 64 bits with a sign, and all objects under it are among these
pub record TellsAll (rows : List (ℤ × Oid)) (value : Value) (oids : List Oid) : Type 0 where
  pub number : ℤ
  pub fits : FitsSigned w64 number
  pub is : value ≡ Whole number
  pub all : (oid : Oid) → Contains rows (number, oid) → Contains oids oid

-- they ascend, and tell all of each value that one of the own objects has
pub record ArePartners (objects : List (Oid × Value)) (rows : List (ℤ × Oid)) (own oids : List Oid) : Type 0 where
  pub ascend : AllPairs (λ a b. a.0 < b.0) oids
  pub told : (from : Oid) (value : Value) → Contains own from → Contains objects (from, value) → TellsAll rows value oids
