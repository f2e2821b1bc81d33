-- Entries that a probe finds.
use Rattle.std.specs.Prelude.{◌≡◌, ℕ, ◌≤◌, List, length}
use Rattle.lore_base.specs.Comparisons.{Compares}
use Rattle.lore_base.specs.TargetSets.{ListsInOrder}
use Rattle.index_traits.specs.Entries.{IsFound}
use Rattle.value_index.specs.Types.{Oid, Label, Op, Value, ValueEntry}

-- the entry has the label and a value that compares so
pub record IsMatch (label : Label) (op : Op) (value : Value) (entry : ValueEntry) : Type 0 where
  pub labelled : entry.label ≡ label
  pub compares : Compares entry.value op value

-- this many objects are found in the entries
abbrev pub CountsFound : List ValueEntry → Label → Op → Value → ℕ → Type 0
CountsFound entries label op value count =
    (oids : List Oid) × ListsInOrder (IsFound entries label op value) oids × (count ≡ length oids)
    × (count ≤ length entries)
