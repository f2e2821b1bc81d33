-- The value entries of labels with objects.
use Rattle.std.specs.Prelude.{◌≢◌, List, Contains}
use Rattle.value_changes.specs.Types.{Oid, Value, Complex, ValueEntry}
use Rattle.value_changes.specs.declared.pairs.Pair.{Pair}

-- the label and the object of an entry
abbrev pub pair_in : ValueEntry → Pair
pair_in entry = record { label = entry.label; object = entry.object }

-- the entry is of a listed pair, and its value is that of the object, which is atomic
pub record IsPairEntry (objects : List (Oid × Value)) (pairs : List Pair) (entry : ValueEntry) : Type 0 where
  pub pair : Contains pairs (pair_in entry)
  pub live : Contains objects (entry.object, entry.value)
  pub atomic : entry.value ≢ Complex
