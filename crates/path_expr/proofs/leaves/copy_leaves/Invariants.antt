use Rattle.std.proofs.Common.{◌≡◌, ◌++◌, drop}
use Rattle.path_expr.proofs.leaves.copy_leaves.Given as goal

abbrev pub invariant-leaves : goal.invariant-leaves
invariant-leaves l = l.copy.items ++ drop l.leaf-index l.leaves ≡ l.leaves
