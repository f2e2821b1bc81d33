use Rattle.std.proofs.Common.{◌≡◌, ◌++◌, map, drop}
use Rattle.lorel_trees.specs.Trees.{cond_tree, cond_trees}
use Rattle.lorel_trees.proofs.conditions.+copy.Given as goal

abbrev pub invariant-copy_conds-conds : goal.invariant-copy_conds-conds
invariant-copy_conds-conds l = map cond_tree l.items.items ++ map cond_tree (drop l.cond-index l.cond-items) ≡ cond_trees l.fn.conds
