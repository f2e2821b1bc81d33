use Rattle.std.proofs.Common.{◌≡◌, ◌+◌, ◌≤◌, ◌++◌, length, map, drop}
use Rattle.lorel_trees.specs.Trees.{cond_tree, conds_from}
use Rattle.lorel_ranges.specs.Types.{NESTING}
use Rattle.lorel_ranges.specs.Texts.{depth_of_all, all_quantifier_variables}
use Rattle.lorel_ranges.specs.Places.{Scope}
use Rattle.lorel_ranges.specs.Conditions.{conds_in}
use Rattle.lorel_bound.specs.Conditions.{paths_of_all}
use Rattle.lorel_ranges.specs.Scopes.{enclosed, IsScope, names_of}
use Rattle.lorel_ranges.specs.Views.{place_trees, texts}
use Rattle.lorel_ranges.proofs.text.TextPart.+add.Given as goal

abbrev pub invariant-add_conds-conds : goal.invariant-add_conds-conds
invariant-add_conds-conds l = record {
  places : (scope : Scope) → IsScope (names_of l.variables) scope
      → place_trees l.self.places.items ++ paths_of_all (conds_in (enclosed 0 (texts l.quantified) scope) (length l.quantified) (conds_from (map cond_tree (drop l.cond-index l.conds))))
      ≡ place_trees l.fn.self.places.items ++ paths_of_all (conds_in (enclosed 0 (texts l.quantified) scope) (length l.quantified) (conds_from (map cond_tree l.conds)));
  deep : length l.quantified + depth_of_all (conds_from (map cond_tree (drop l.cond-index l.conds))) ≤ NESTING;
  ranged : texts l.self.ranged.items ++ all_quantifier_variables (conds_from (map cond_tree (drop l.cond-index l.conds)))
      ≡ texts l.fn.self.ranged.items ++ all_quantifier_variables (conds_from (map cond_tree l.conds));
}
