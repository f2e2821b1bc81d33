-- Value indexes, and what a change of one brings.
use Rattle.std.specs.Prelude.{◌≡◌, ◌≢◌, ℕ, ◌<◌, ◌≤◌, ◌^◌, List, length, All}
use Rattle.value_index.specs.Types.{ValueEntry, Complex}
use Rattle.index_traits.specs.Entries.{AreAscendingEntries}
use Rattle.sorted_list.specs.SortedLists.{IsThen, IsChange, IsLessWith}

-- for how many more values there is room, and for how many more entries: of whole numbers, of texts, of flags, of texts
-- that read as whole numbers, and of texts that read as flags
pub record EntryRoom : Type 0 where
  pub values : ℕ
  pub wholes : ℕ
  pub chars : ℕ
  pub flags : ℕ
  pub readings : ℕ
  pub flag_readings : ℕ

-- entries in the order of label and object, and for how many more there is room
pub record RoomyEntries : Type 0 where
  pub entries : List ValueEntry
  pub room : EntryRoom

-- entries that go and entries that come, both in the order of label and object, and the room that these need
pub record PlannedEntries : Type 0 where
  pub gone : List ValueEntry
  pub come : List ValueEntry
  pub needs : EntryRoom

-- the index keeps the room free that the change needs
pub record HasRoom (kept : RoomyEntries) (plan : PlannedEntries) : Type 0 where
  pub values : plan.needs.values ≤ kept.room.values
  pub wholes : plan.needs.wholes ≤ kept.room.wholes
  pub chars : plan.needs.chars ≤ kept.room.chars
  pub flags : plan.needs.flags ≤ kept.room.flags
  pub readings : plan.needs.readings ≤ kept.room.readings
  pub flag_readings : plan.needs.flag_readings ≤ kept.room.flag_readings

-- each object has one value in all of its entries then
abbrev pub HasOneValue : List ValueEntry → List ValueEntry → List ValueEntry → Type 0
HasOneValue kept gone come = (a b : ValueEntry) → IsThen kept gone come a → IsThen kept gone come b
    → a.object ≡ b.object → a.value ≡ b.value

-- the change fits the entries that are kept: it is one of them, what comes is atomic, each object has one value then,
-- and a number of 32 bits counts the entries then
pub record FitsEntries (kept gone come : List ValueEntry) : Type 0 where
  pub gone_ascend : AreAscendingEntries gone
  pub come_ascend : AreAscendingEntries come
  pub change : IsChange kept gone come
  pub atomic : All (λ entry. entry.value ≢ Complex) come
  pub one_value : HasOneValue kept gone come
  pub few : (after : List ValueEntry) → AreAscendingEntries after → IsLessWith kept gone come after
      → length after < 2 ^ 32
