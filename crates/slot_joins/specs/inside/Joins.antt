-- What a comparison of two slots tells of one of them, by a table of the objects under whole numbers.
use Rattle.std.specs.Prelude.{◌≡◌, ◌<◌, ℕ, ℤ, Bool, true, List, [], Option, Some, FitsSigned, All, AllPairs, Contains, slice_get}
use Rattle.std.specs.Int.{w64}
use Rattle.lore_base.specs.Comparisons.{Compares}
use Rattle.lore_base.specs.Paths.{PathTree}
use Rattle.join_tables.specs.Tables.{IsTableBy}
use Rattle.lorel_bound.specs.Bound.{BoundPathTree}
use Rattle.lorel_bound.specs.Conditions.{CondOf}
use Rattle.lorel_bound.specs.SlotRows.{HoldsOver, MeetsBy}
use Rattle.word_walks.specs.WordWalks.{IsReachedBy, IsItsWord}
use Rattle.word_walks.specs.declared.only_words.OnlyWord.TheVariants.{Labels}
use Rattle.slot_joins.specs.Types.{Oid, Label, Edge, Value, Whole, Eq, ValueEntry}
use Rattle.slot_joins.specs.declared.joins.Join.{Join}

-- the word leads from the object in the one slot to a value, and where this is a whole number, the object in the other slot stands
-- under it
pub record Joins (edges : List Edge) (objects : List (Oid × Value)) (join : Join) (row : List Oid) : Type 0 where
  pub from : Oid
  pub starts : slice_get row join.start ≡ Some from
  pub own : Oid
  pub value : Value
  pub reached : IsReachedBy join.word edges from own
  pub has : Contains objects (own, value)
  pub oid : Oid
  pub stands : slice_get row join.slot ≡ Some oid
  pub under : (number : ℤ) → FitsSigned w64 number → value ≡ Whole number → Contains join.table (number, oid)

-- and so for each row of which the condition holds
abbrev pub IsJoinIn : List (List ℕ) → List Edge → List (Oid × Value) → Option (CondOf BoundPathTree) → Join → Type 0
IsJoinIn labels edges objects condition join = (row : List Oid) → HoldsOver labels edges objects row condition → Joins edges objects join row

-- and so for each row that passes
abbrev pub IsJoinFor : List Edge → List (Oid × Value) → (List Oid → Type 0) → Join → Type 0
IsJoinFor edges objects Passes join = (row : List Oid) → Passes row → Joins edges objects join row

-- the path leads to an object with this value
abbrev pub LeadsTo : List (List ℕ) → List Edge → List (Oid × Value) → List Oid → BoundPathTree → Value → Type 0
LeadsTo labels edges objects row path value = (oid : Oid) × MeetsBy labels edges row [] path oid × Contains objects (oid, value)

-- a join for each row in which the two paths lead to equal values
abbrev pub JoinsPaths : List (List ℕ) → List Edge → List (Oid × Value) → BoundPathTree → BoundPathTree → Join → Type 0
JoinsPaths labels edges objects own sought join =
    (row : List Oid) (a b : Value) → LeadsTo labels edges objects row own a → LeadsTo labels edges objects row sought b → Compares b Eq a
    → Joins edges objects join row

-- the table has what leads along the only word of the path to values under its last label
abbrev pub IsTableOf : List (List ℕ) → List Edge → List ValueEntry → PathTree → List (ℤ × Oid) → Type 0
IsTableOf labels links entries path table =
    (word : List Label) × IsItsWord labels path (Labels word) × IsTableBy links entries word table

-- beside the old joins are some of the condition, and so of each of which it follows
abbrev pub AddsJoins : List (List ℕ) → List Edge → List (Oid × Value) → CondOf BoundPathTree → List Join → List Join → Type 0
AddsJoins labels edges objects condition old new =
    (whole : Option (CondOf BoundPathTree))
    → ((row : List Oid) → HoldsOver labels edges objects row whole → HoldsOver labels edges objects row (Some condition))
    → All (IsJoinIn labels edges objects whole) old → All (IsJoinIn labels edges objects whole) new

-- they ascend, and are all that rows with the same object at the start may have
pub record FitsBy (edges : List Edge) (objects : List (Oid × Value)) (join : Join) (row oids : List Oid) : Type 0 where
  pub ascend : AllPairs (λ a b. a.0 < b.0) oids
  pub all : (other : List Oid) → slice_get other join.start ≡ slice_get row join.start → Joins edges objects join other
      → (oid : Oid) × (slice_get other join.slot ≡ Some oid) × Contains oids oid

-- these are told by a join of the slot, from a known one
pub record IsToldByJoin (edges : List Edge) (objects : List (Oid × Value)) (joins : List Join) (known : List Bool) (slot : ℕ) (row oids : List Oid)
    : Type 0 where
  pub join : Join
  pub among : Contains joins join
  pub slot_is : join.slot ≡ slot
  pub known_is : slice_get known join.start ≡ Some true
  pub fits : FitsBy edges objects join row oids
