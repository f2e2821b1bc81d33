-- Entries without the values of their objects.
use Rattle.std.specs.Prelude.{◌≡◌, List, map, filter, Contains}
use denote.Ref.{Bor}
use Rattle.value_orders.specs.Types.{Oid, Label, Value, ValueEntry, Entry, Kind}
use Rattle.value_orders.specs.Kinds.{is_of}
use Rattle.value_orders.specs.Held.{held}

-- the entry of a label and an object
abbrev pub naming : Label → Oid → Entry
naming label object = record { label = label; object = object }

-- the entry without its value
abbrev pub named : ValueEntry → Entry
named entry = naming entry.label entry.object

-- the entries that are referred to
abbrev pub seen : List (Bor ValueEntry) → List ValueEntry
seen entries = map (λ entry. entry.now) entries

-- those of the entries whose values are of the kind
abbrev pub entries_of : Kind → List ValueEntry → List ValueEntry
entries_of kind entries = filter (λ entry. is_of kind entry.value) entries

-- and the same without their values
abbrev pub named_of : Kind → List ValueEntry → List Entry
named_of kind entries = map named (entries_of kind entries)

-- the objects of the entries have their values there
abbrev pub HoldTheirs : List (Oid × Value) → List ValueEntry → Type 0
HoldTheirs values entries = (entry : ValueEntry) → Contains entries entry → held values entry.object ≡ entry.value
