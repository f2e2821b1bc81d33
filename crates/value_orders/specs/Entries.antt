-- Objects with the values that their entries have.
use Rattle.std.specs.Prelude.{◌≡◌, List, Contains}
use Rattle.index_traits.specs.Entries.{entry_of}
use Rattle.value_orders.specs.Types.{Oid, Label, Value, ValueEntry, Entry}
use Rattle.value_orders.specs.Held.{held}

-- an entry's object with its value
abbrev pub held_of : ValueEntry → Oid × Value
held_of entry = (entry.object, entry.value)

-- each object has one value in all of its entries
abbrev pub HasOneValueIn : (ValueEntry → Type 0) → Type 0
HasOneValueIn IsEntry = (a b : ValueEntry) → IsEntry a → IsEntry b → a.object ≡ b.object → a.value ≡ b.value

-- the values are those of the entries' objects
pub record AreHeldIn (IsEntry : ValueEntry → Type 0) (values : List (Oid × Value)) : Type 0 where
  pub only : (object : Oid × Value) → Contains values object → (label : Label) × IsEntry (entry_of label object.1 object.0)
  pub all : (entry : ValueEntry) → IsEntry entry → Contains values (held_of entry)

-- an entry with the value that its object has there
abbrev pub entry_in : List (Oid × Value) → Entry → ValueEntry
entry_in values entry = entry_of entry.label (held values entry.object) entry.object
