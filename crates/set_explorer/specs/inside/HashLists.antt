-- Nodes under the hashes of their sets.
use Rattle.std.specs.Prelude.{ℕ, List, [], unwrap_or}
use Rattle.std.specs.Ordering.{nat_cmp}
use Rattle.std.specs.Map.{lookup}
use Rattle.std.specs.BTreeMap.{is_at}
use Rattle.set_explorer.specs.Types.{Node}

-- the nodes under a hash
abbrev pub listed : List (ℕ × List Node) → ℕ → List Node
listed lists hash = unwrap_or (lookup (is_at (nat_cmp hash)) lists) []
