use Rattle.std.proofs.Common.{map, take}
use Rattle.lorel_trees.specs.Trees.{from_tree}
use Rattle.lorel_ranges.specs.Places.{path_variables}
use Rattle.lorel_ranges.specs.inside.Scopes.{FindAlike, places_found}
use Rattle.lorel_ranges.proofs.path_variables.PathVariables.from_items.Given as goal

abbrev pub invariant-items : goal.invariant-items
invariant-items l = FindAlike (places_found l.variables) (path_variables (map from_tree (take l.item-index l.items)))
