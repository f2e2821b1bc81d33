-- Hints: a condition that holds of all rows of a bound select, and may say more of its earlier slots.
use Rattle.std.specs.Prelude.{ℕ, ◌≤◌, List, length, Some, All, sum_by}
use Rattle.lore_base.specs.Paths.{leaves}
use Rattle.lorel_bound.specs.Bound.{BoundPathTree, BoundTree}
use Rattle.lorel_bound.specs.Conditions.{CondOf, paths_of}
use Rattle.lorel_bound.specs.Runnable.{IsBoundWithin}
use Rattle.lorel_bound.specs.SlotRows.{AreFilled, HoldsOver}
use Rattle.select_hints.specs.Types.{Oid, Edge, Value, LEAVES}

-- its paths have at most LEAVES leaves together and start at objects or at slots of the select, and where the slots are
-- filled and the condition of the select holds of them, it holds too
pub record AreHints (bound : BoundTree) (hints : CondOf BoundPathTree) : Type 0 where
  pub few_leaves : sum_by (λ path. leaves path.rest) (paths_of hints) ≤ LEAVES
  pub within : All (λ path. IsBoundWithin (length bound.ranges) path.start) (paths_of hints)
  pub told : (labels : List (List ℕ)) (edges : List Edge) (objects : List (Oid × Value)) (slots : List Oid)
      → AreFilled labels edges bound.ranges slots
      → HoldsOver labels edges objects slots bound.cond → HoldsOver labels edges objects slots (Some hints)
