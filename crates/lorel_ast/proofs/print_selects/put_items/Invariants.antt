use Rattle.std.proofs.Common.{◌≡◌, List, ◌++◌, map, drop}
use Rattle.lorel_lex.specs.Writing.{spaced}
use Rattle.lorel_trees.specs.Types.{Kind}
use Rattle.lorel_trees.specs.Trees.{item_tree}
use Rattle.lorel_ast.specs.Printing.{print_items, print_more_items}
use Rattle.lorel_ast.proofs.print_selects.put_items.Given as goal

abbrev pub invariant-others : goal.invariant-others
invariant-others l = (rest : List Kind) → l.fn.out ++ spaced (print_items (map item_tree l.fn.items) rest)
    ≡ l.out ++ spaced (print_more_items (map item_tree (drop l.item-index l.others)) rest)
