use Rattle.std.specs.Prelude.{◌≡◌, map, drop}
use Rattle.std.specs.List.{list_all}
use Rattle.lorel_trees.specs.Trees.{item_tree}
use Rattle.lorel_parse.specs.inside.Statements.{is_object}
use Rattle.lorel_parse.proofs.histories.are_objects.Given as goal

abbrev pub invariant-items : goal.invariant-items
invariant-items l = list_all is_object (map item_tree l.fn.items) ≡ list_all is_object (map item_tree (drop l.item-index l.item-items))
