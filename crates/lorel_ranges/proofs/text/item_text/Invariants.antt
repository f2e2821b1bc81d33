use Rattle.std.proofs.Common.{ℕ, List, map, take}
use Rattle.lorel_trees.specs.Trees.{item_tree}
use Rattle.lorel_ranges.specs.Places.{Scope, Place}
use Rattle.lorel_ranges.specs.Scopes.{IsScope, names_of}
use Rattle.lorel_ranges.specs.inside.Scopes.{FindAlike, places_found}
use Rattle.lorel_ranges.specs.Readings.{ReadsItems}
use Rattle.lorel_ranges.proofs.text.item_text.Given as goal

abbrev pub invariant-items : goal.invariant-items
invariant-items l = (scope : Scope) (known : List (List ℕ × Place)) → IsScope (names_of l.variables) scope → FindAlike (places_found l.words) known
    → ReadsItems scope known (map item_tree (take l.item-index l.list)) l.items
