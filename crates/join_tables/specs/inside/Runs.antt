-- Rows in the order of their numbers, and those under one number.
use Rattle.std.specs.Prelude.{◌≡◌, ◌≢◌, ◌↔◌, ℤ, List, All, AllPairs, Contains}
use Rattle.std.specs.Ordering.{int_cmp, nat_cmp, ordering_then, ordering_index}
use Rattle.std.specs.List.Sorted.{IsNonDecreasingBy}
use Rattle.std.specs.declared.cmp.Ordering.{Ordering}
use Rattle.std.specs.declared.cmp.Ordering.TheVariants.{Less}
use Rattle.join_tables.specs.Types.{Oid, Value}
use Rattle.join_tables.specs.Tables.{TellsAll}

-- rows in the order of number and object
abbrev pub AscendByNumber : List (ℤ × Oid) → Type 0
AscendByNumber rows = AllPairs (λ a b. ordering_then (int_cmp a.0 b.0) (nat_cmp (a.1).0 (b.1).0) ≡ Less) rows

-- they are the same rows
abbrev pub HaveTheSame : List (ℤ × Oid) → List (ℤ × Oid) → Type 0
HaveTheSame rows others = (row : ℤ × Oid) → Contains others row ↔ Contains rows row

-- how the number of a row compares
abbrev pub side_of : ℤ → ℤ × Oid → Ordering
side_of number row = int_cmp row.0 number

-- the rows do not fall, and none has a lesser number
pub record IsFromNumber (number : ℤ) (rows : List (ℤ × Oid)) : Type 0 where
  pub rise : IsNonDecreasingBy (λ row. ordering_index (side_of number row)) rows
  pub none_before : All (λ row. side_of number row ≢ Less) rows

-- all objects under the number stand among these, beside those of before
pub record TakesRun (rows : List (ℤ × Oid)) (number : ℤ) (old new : List Oid) : Type 0 where
  pub kept : (oid : Oid) → Contains old oid → Contains new oid
  pub taken : (oid : Oid) → Contains rows (number, oid) → Contains new oid

-- all is told of each value that one of the own objects has
abbrev pub TellFor : List (Oid × Value) → List (ℤ × Oid) → List Oid → List Oid → Type 0
TellFor objects rows own oids = (from : Oid) (value : Value) → Contains own from → Contains objects (from, value) → TellsAll rows value oids
