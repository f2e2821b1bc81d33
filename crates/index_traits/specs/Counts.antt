-- How many objects pass a test.
use Rattle.std.specs.Prelude.{◌≡◌, ℕ, List, length}
use Rattle.lore_base.specs.TargetSets.{ListsInOrder}
use Rattle.index_traits.specs.Types.{Oid}

-- so many objects pass
abbrev pub IsCount : (Oid → Type 0) → ℕ → Type 0
IsCount Passes count = (oids : List Oid) × ListsInOrder Passes oids × (count ≡ length oids)
