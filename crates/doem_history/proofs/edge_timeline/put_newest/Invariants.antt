use Rattle.std.proofs.Common.{◌≡◌, ℕ, ◌+◌, ◌≤◌, List, ◌++◌, length, take, Option}
use Rattle.indexmap.specs.IndexMap.{get, spare}
use Rattle.doem_history.specs.Types.{Edge}
use Rattle.doem_history.specs.inside.Chains.{edge_eq, AreNewest}
use Rattle.doem_history.proofs.edge_timeline.put_newest.Given as goal

pub record SoFar (now old : Edge → Option ℕ) (left room count link : ℕ) (seen : List Edge) : Type 0 where
  pub link_is : link ≡ count + length seen
  pub room_left : room ≤ left + length seen
  pub newest : (before : List Edge) → length before ≡ count → AreNewest before old → AreNewest (before ++ seen) now

abbrev pub invariant-edges : goal.invariant-edges
invariant-edges l = SoFar (get edge_eq l.newest) (get edge_eq l.fn.newest) (spare l.newest) (spare l.fn.newest) l.count l.link (take l.edge-index l.edges)
