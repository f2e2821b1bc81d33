-- The leaves of the paths of a condition, counted one after another.
use Rattle.std.specs.Prelude.{ℕ, ◌+◌}
use Rattle.lore_base.specs.Paths.{leaves}
use Rattle.lorel_bound.specs.Bound.{BoundPathTree}
use Rattle.lorel_bound.specs.Conditions.{OperandOf, constant, at, CondOf, or, and, not, exists, for_all, compare, same, CondsOf, no_cond, cond}

abbrev pub operand_leaves : OperandOf BoundPathTree → ℕ
operand_leaves (constant value) = 0
operand_leaves (at path) = leaves path.rest

abbrev mutual
  pub cond_leaves : CondOf BoundPathTree → ℕ
  cond_leaves (or members) = conds_leaves members
  cond_leaves (and members) = conds_leaves members
  cond_leaves (not body) = cond_leaves body
  cond_leaves (exists path body) = leaves path.rest + cond_leaves body
  cond_leaves (for_all path body) = leaves path.rest + cond_leaves body
  cond_leaves (compare left op right) = operand_leaves left + operand_leaves right
  cond_leaves (same left right) = leaves left.rest + leaves right.rest

  pub conds_leaves : CondsOf BoundPathTree → ℕ
  conds_leaves no_cond = 0
  conds_leaves (cond first others) = cond_leaves first + conds_leaves others
