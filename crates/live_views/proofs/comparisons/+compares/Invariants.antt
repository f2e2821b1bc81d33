use Rattle.std.proofs.Common.{◌↔◌, map, drop}
use Rattle.lorel_trees.specs.Trees.{cond_tree, conds_from}
use Rattle.live_views.specs.Concerns.{SomeHasComparison}
use Rattle.live_views.proofs.comparisons.+compares.Given as goal

-- where some condition compares values, one of those that are left does
abbrev pub invariant-some_has_comparison-conds : goal.invariant-some_has_comparison-conds
invariant-some_has_comparison-conds l = SomeHasComparison (conds_from (map cond_tree (drop l.cond-index l.conds)))
    ↔ SomeHasComparison (conds_from (map cond_tree l.conds))
