-- What goes of the value entries, and what comes, where edges and values change.
use Rattle.std.specs.Prelude.{◌≡◌, ◌⊎◌, ◌↔◌, List, Contains}
use Rattle.value_changes.specs.Types.{Oid, Edge, Value, ValueEntry}
use Rattle.lore_base.specs.Databases.{IsLive}
use Rattle.lore_base.specs.Deltas.{IsOnlyIn}
use Rattle.index_traits.specs.Entries.{IsValueEntry, AreAscendingEntries}

-- objects with their values, and edges
pub record State : Type 0 where
  pub objects : List (Oid × Value)
  pub edges : List Edge

-- the entry is one of the state's
abbrev pub HasEntry : State → ValueEntry → Type 0
HasEntry state entry = IsValueEntry state.objects state.edges entry

-- each object has one value, and the child of each edge is live
pub record IsSettled (state : State) : Type 0 where
  pub one_value : (oid : Oid) (value other : Value)
      → Contains state.objects (oid, value) → Contains state.objects (oid, other) → value ≡ other
  pub children : (edge : Edge) → Contains state.edges edge → IsLive state.objects edge.child

-- the edges of the first state that are lost in the second, those of the second that are fresh in it, and an object
-- that is live in both keeps its value unless one was given to it
pub record AreGraphChanges (before after : State) (lost fresh : List Edge) (given : List (Oid × Value))
    : Type 0 where
  pub lost_exact : (edge : Edge) → Contains lost edge ↔ IsOnlyIn before.edges after.edges edge
  pub fresh_exact : (edge : Edge) → Contains fresh edge ↔ IsOnlyIn after.edges before.edges edge
  pub keep : (oid : Oid) (value : Value) → Contains before.objects (oid, value) → IsLive after.objects oid
      → IsLive given oid ⊎ Contains after.objects (oid, value)

-- what goes held before, what comes holds then and was not there unless it goes first; what held before goes or holds
-- still, and what holds then comes or is kept
pub record TakesTo {T : Type 0} (Before After : T → Type 0) (gone come : List T) : Type 0 where
  pub gone_ones : (item : T) → Contains gone item → Before item
  pub come_ones : (item : T) → Contains come item → After item × (Before item → Contains gone item)
  pub stays : (item : T) → Before item → Contains gone item ⊎ After item
  pub rest : (item : T) → After item → Contains come item ⊎ (Before item × (¬ Contains gone item))

-- the entries that go and those that come, each in the order of label and object
pub record AreEntryChanges (before after : State) (gone come : List ValueEntry) : Type 0 where
  pub gone_ascend : AreAscendingEntries gone
  pub come_ascend : AreAscendingEntries come
  pub takes : TakesTo (HasEntry before) (HasEntry after) gone come
