-- What indexes hold: for each edge, the way back from its child; and for each label of an edge that enters an atomic
-- object, the object's value. Beside them what a probe for values finds.
use Rattle.std.specs.Prelude.{◌≡◌, ◌≢◌, ◌↔◌, List, AllPairs, Contains}
use Rattle.std.specs.Ordering.{nat_cmp, ordering_then}
use Rattle.std.specs.declared.cmp.Ordering.{Ordering}
use Rattle.std.specs.declared.cmp.Ordering.TheVariants.{Less}
use Rattle.index_traits.specs.Types.{Oid, Label, Edge, Value, Complex, Op, Ne, Like, ValueEntry}
use Rattle.lore_base.specs.Walks.{edge_of}
use Rattle.lore_base.specs.Comparisons.{Compares}

-- Link entries.

-- edges in the order of child, label and parent
abbrev pub link_cmp : Edge → Edge → Ordering
link_cmp a b =
    ordering_then (nat_cmp a.child.0 b.child.0)
    (ordering_then (nat_cmp a.label.0 b.label.0) (nat_cmp a.parent.0 b.parent.0))

abbrev pub AreAscendingLinks : List Edge → Type 0
AreAscendingLinks links = AllPairs (λ a b. link_cmp a b ≡ Less) links

-- the link entries: each edge once, in the order of child, label and parent
pub record AreLinks (edges links : List Edge) : Type 0 where
  pub ascend : AreAscendingLinks links
  pub exact : (edge : Edge) → Contains links edge ↔ Contains edges edge

-- Value entries.

-- the entry of a label, a value and an object
abbrev pub entry_of : Label → Value → Oid → ValueEntry
entry_of label value object = record { label = label; value = value; object = object }

-- entries in the order of label and object
abbrev pub entry_cmp : ValueEntry → ValueEntry → Ordering
entry_cmp a b = ordering_then (nat_cmp a.label.0 b.label.0) (nat_cmp a.object.0 b.object.0)

abbrev pub AreAscendingEntries : List ValueEntry → Type 0
AreAscendingEntries entries = AllPairs (λ a b. entry_cmp a b ≡ Less) entries

-- an edge with the label enters the object
abbrev pub IsEntered : List Edge → Label → Oid → Type 0
IsEntered edges label object = (parent : Oid) × Contains edges (edge_of parent label object)

-- the object has this value, which is atomic, and an edge with the label enters it
pub record IsValueEntry (objects : List (Oid × Value)) (edges : List Edge) (entry : ValueEntry) : Type 0 where
  pub live : Contains objects (entry.object, entry.value)
  pub atomic : entry.value ≢ Complex
  pub entered : IsEntered edges entry.label entry.object

-- the value entries: each once, in the order of label and object
pub record AreValueEntries (objects : List (Oid × Value)) (edges : List Edge) (entries : List ValueEntry)
    : Type 0 where
  pub ascend : AreAscendingEntries entries
  pub exact : (entry : ValueEntry) → Contains entries entry ↔ IsValueEntry objects edges entry

-- an operator that asks for an order in which an index is searched
pub record IsProbed (op : Op) : Type 0 where
  pub no_other : op ≢ Ne
  pub no_pattern : op ≢ Like

-- the object has an entry of the label whose value compares so
abbrev pub IsFound : List ValueEntry → Label → Op → Value → Oid → Type 0
IsFound entries label op value object =
    (own : Value) × Contains entries (entry_of label own object) × Compares own op value
