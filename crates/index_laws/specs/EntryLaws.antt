-- Laws of entries: what one edge more or less and a changed value do to them, and that there is one list of them.
use Rattle.std.specs.Prelude.{◌≡◌, ◌≢◌, ◌⊎◌, ◌↔◌, List, Contains}
use Rattle.index_traits.specs.Types.{Oid, Edge, Value, Complex}
use Rattle.index_traits.specs.declared.entries.ValueEntry.{ValueEntry}
use Rattle.index_traits.specs.Entries.{AreLinks, entry_of, IsEntered, IsValueEntry, AreValueEntries}
use Rattle.lore_base.specs.Walks.{edge_of}
use Rattle.lore_base.specs.Databases.{AreAscendingObjects}

-- the edges with this one
abbrev pub HasOneMore : List Edge → Edge → List Edge → Type 0
HasOneMore edges edge after = (other : Edge) → Contains after other ↔ (Contains edges other ⊎ (other ≡ edge))

-- the edges without this one
abbrev pub HasOneLess : List Edge → Edge → List Edge → Type 0
HasOneLess edges edge after = (other : Edge) → Contains after other ↔ (Contains edges other × (other ≢ edge))

-- the entry has the label and the child of the edge
abbrev pub IsEntryOf : Edge → ValueEntry → Type 0
IsEntryOf edge entry = (entry.label ≡ edge.label) × (entry.object ≡ edge.child)

-- another edge with the label of this one enters its child
abbrev pub HasOtherParent : List Edge → Edge → Type 0
HasOtherParent edges edge =
    (parent : Oid) × (parent ≢ edge.parent) × Contains edges (edge_of parent edge.label edge.child)

-- the objects, of which one has this value now
abbrev pub HasChangedValue : List (Oid × Value) → Oid → Value → List (Oid × Value) → Type 0
HasChangedValue objects oid value after = (other : Oid) (own : Value) → Contains after (other, own)
    ↔ ((Contains objects (other, own) × (other ≢ oid)) ⊎ ((other ≡ oid) × (own ≡ value)))

-- One edge more.

-- the link entries are those before and that edge
abbrev pub LinksGainTheEdge : Type 0
LinksGainTheEdge = (edges after links links_after : List Edge) (edge : Edge) → HasOneMore edges edge after
    → AreLinks edges links → AreLinks after links_after → HasOneMore links edge links_after

-- the value entries are those before and that of the edge's label and child, where the child's value is atomic
abbrev pub EntriesGainAtMostOne : Type 0
EntriesGainAtMostOne = (objects : List (Oid × Value)) (edges after : List Edge) (edge : Edge)
    → HasOneMore edges edge after → (entry : ValueEntry)
    → IsValueEntry objects after entry
    ↔ (IsValueEntry objects edges entry
    ⊎ (IsEntryOf edge entry × Contains objects (entry.object, entry.value) × (entry.value ≢ Complex)))

-- One edge less.

-- the link entries are those before without that edge
abbrev pub LinksLoseTheEdge : Type 0
LinksLoseTheEdge = (edges after links links_after : List Edge) (edge : Edge) → HasOneLess edges edge after
    → AreLinks edges links → AreLinks after links_after → HasOneLess links edge links_after

-- the value entries are those before, but that of the edge's label and child only where it has another parent
abbrev pub EntriesLoseAtMostOne : Type 0
EntriesLoseAtMostOne = (objects : List (Oid × Value)) (edges after : List Edge) (edge : Edge)
    → HasOneLess edges edge after → (entry : ValueEntry)
    → IsValueEntry objects after entry
    ↔ (IsValueEntry objects edges entry × (IsEntryOf edge entry → HasOtherParent edges edge))

-- with a second parent by an equal label all entries stay
abbrev pub EntriesStayWithAnotherParent : Type 0
EntriesStayWithAnotherParent = (objects : List (Oid × Value)) (edges after : List Edge) (edge : Edge)
    → HasOneLess edges edge after → HasOtherParent edges edge → (entry : ValueEntry)
    → IsValueEntry objects after entry ↔ IsValueEntry objects edges entry

-- without one the entry of the edge's label and child goes
abbrev pub EntriesGoWithTheLastEdge : Type 0
EntriesGoWithTheLastEdge = (objects : List (Oid × Value)) (edges after : List Edge) (edge : Edge)
    → HasOneLess edges edge after → (¬ HasOtherParent edges edge) → (entry : ValueEntry)
    → IsEntryOf edge entry → ¬ IsValueEntry objects after entry

-- A changed value.

-- the entries of all other objects stay
abbrev pub EntriesOfOthersStay : Type 0
EntriesOfOthersStay = (objects after : List (Oid × Value)) (edges : List Edge) (oid : Oid) (value : Value)
    → HasChangedValue objects oid value after → (entry : ValueEntry) → entry.object ≢ oid
    → IsValueEntry after edges entry ↔ IsValueEntry objects edges entry

-- an entry of the object has the new value, and its label is that of an entry with the old one
abbrev pub EntriesChangeTheirValue : Type 0
EntriesChangeTheirValue = (objects after : List (Oid × Value)) (edges : List Edge) (oid : Oid) (old new : Value)
    → HasChangedValue objects oid new after → Contains objects (oid, old) → old ≢ Complex → new ≢ Complex
    → (entry : ValueEntry) → entry.object ≡ oid
    → IsValueEntry after edges entry
    ↔ ((entry.value ≡ new) × IsValueEntry objects edges (entry_of entry.label old oid))

-- an object with an atomic value has an entry of it under each label of an edge that enters the object, and no other
abbrev pub EntriesAreOfTheNewValue : Type 0
EntriesAreOfTheNewValue = (objects after : List (Oid × Value)) (edges : List Edge) (oid : Oid) (value : Value)
    → HasChangedValue objects oid value after → value ≢ Complex → (entry : ValueEntry) → entry.object ≡ oid
    → IsValueEntry after edges entry ↔ ((entry.value ≡ value) × IsEntered edges entry.label oid)

-- an object that is complex has none
abbrev pub EntriesGoWithAComplexValue : Type 0
EntriesGoWithAComplexValue = (objects after : List (Oid × Value)) (edges : List Edge) (oid : Oid)
    → HasChangedValue objects oid Complex after → (entry : ValueEntry) → entry.object ≡ oid
    → ¬ IsValueEntry after edges entry

-- One list.

-- two lists of link entries of the same edges are one
abbrev pub LinksAreDetermined : Type 0
LinksAreDetermined = (edges first second : List Edge) → AreLinks edges first → AreLinks edges second → first ≡ second

-- two lists of value entries of the same objects and edges are one
abbrev pub EntriesAreDetermined : Type 0
EntriesAreDetermined = (objects : List (Oid × Value)) (edges : List Edge) (first second : List ValueEntry)
    → AreValueEntries objects edges first → AreValueEntries objects edges second → first ≡ second

-- there is a list of link entries
abbrev pub LinksExist : Type 0
LinksExist = (edges : List Edge) → (links : List Edge) × AreLinks edges links

-- there is a list of value entries, where each object has one value
abbrev pub EntriesExist : Type 0
EntriesExist = (objects : List (Oid × Value)) (edges : List Edge) → AreAscendingObjects objects
    → (entries : List ValueEntry) × AreValueEntries objects edges entries
