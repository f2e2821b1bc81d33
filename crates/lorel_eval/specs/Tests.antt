-- What a test of rows stands on: a condition, and the database that it is tested over.
use Rattle.std.specs.Prelude.{ℕ, List, sum_by, Option}
use Rattle.lore_base.specs.Paths.{leaves}
use Rattle.lorel_bound.specs.Bound.{BoundPathTree}
use Rattle.lorel_eval.specs.Types.{Oid, Edge, Value, BoundCond}

-- a condition, which may be missing, over label texts, edges and objects with their values
pub record CondOver : Type 0 where
  pub labels : List (List ℕ)
  pub edges : List Edge
  pub objects : List (Oid × Value)
  pub cond : Option BoundCond

-- the leaves of the rests of some paths, together
abbrev pub rest_leaves : List BoundPathTree → ℕ
rest_leaves paths = sum_by (λ path. leaves path.rest) paths
