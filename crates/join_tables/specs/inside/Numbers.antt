-- The numbers that values are equal to.
use Rattle.std.specs.Prelude.{ℤ, List, FitsSigned, Contains}
use Rattle.std.specs.Int.{w64}
use Rattle.lore_base.specs.Comparisons.{Compares}
use Rattle.index_traits.specs.Entries.{IsFound}
use Rattle.join_tables.specs.Types.{Oid, Label, Value, Whole, Eq, ValueEntry}

-- an object more stands among them, under the number that its value is equal to
pub record TakesNumber (objects : List (Oid × Value)) (oid : Oid) (old new : List (ℤ × Oid)) : Type 0 where
  pub kept : (row : ℤ × Oid) → Contains old row → Contains new row
  pub taken : (value : Value) (number : ℤ) → Contains objects (oid, value) → Compares value Eq (Whole number) → Contains new (number, oid)

-- and so for each of some objects
abbrev pub AreNumbered : List (Oid × Value) → List Oid → List (ℤ × Oid) → Type 0
AreNumbered objects oids rows =
    (oid : Oid) (value : Value) (number : ℤ) → Contains oids oid → Contains objects (oid, value) → Compares value Eq (Whole number)
    → Contains rows (number, oid)

-- and for those that have such a value under the label
abbrev pub HasEnds : List ValueEntry → Label → List (ℤ × Oid) → Type 0
HasEnds entries label rows =
    (number : ℤ) (end : Oid) → FitsSigned w64 number → IsFound entries label Eq (Whole number) end → Contains rows (number, end)
