-- Objects that leave: those whose entries are all gone, and which are given no value.
use Rattle.std.specs.Prelude.{ℕ, ◌<◌, ◌≤◌, ◌==◌, Bool, not, ◌||◌, List, [], length, filter, slice_index_or}
use Rattle.std.specs.List.{list_any}
use Rattle.value_index.specs.Types.{Oid, Label, Value, Whole, Chars, Flag, Complex, Entry}
use Rattle.value_orders.specs.Held.{has_value}

-- whether some entry names the object
abbrev pub names : List Entry → Oid → Bool
names entries object = list_any (λ entry. entry.object.0 == object.0) entries

-- the entries among which those of an object stand that has the value
abbrev pub own_entries : List Entry → List Entry → List Entry → Value → List Entry
own_entries wholes texts flags (Whole number) = wholes
own_entries wholes texts flags (Chars text) = texts
own_entries wholes texts flags (Flag flag) = flags
own_entries wholes texts flags Complex = []

-- the object is given a value, or an entry names it among those where its own stand
abbrev pub is_staying : List (Oid × Value) → List Entry → List Entry → List Entry → Oid × Value → Bool
is_staying come wholes texts flags object =
    has_value come object.0 || names (own_entries wholes texts flags object.1) object.0

-- the objects that leave
abbrev pub leaving_of : List (Oid × Value) → List Entry → List Entry → List Entry → List (Oid × Value) → List (Oid × Value)
leaving_of come wholes texts flags gone = filter (λ object. not (is_staying come wholes texts flags object)) gone

-- the labels before the place are this one or come before it, and those from there on come behind it
pub record IsPastLabel (entries : List Entry) (label : Label) (place : ℕ) : Type 0 where
  pub before : (k : ℕ) (d : Entry) → k < place → (slice_index_or entries k d).label.0 ≤ label.0
  pub behind : (k : ℕ) (d : Entry) → place ≤ k → k < length entries → label.0 < (slice_index_or entries k d).label.0
