use Rattle.std.proofs.Common.{◌≡◌, List, ◌++◌, map, drop}
use Rattle.lorel_lex.specs.Writing.{spaced}
use Rattle.lorel_trees.specs.Types.{Kind}
use Rattle.lorel_trees.specs.Trees.{from_tree}
use Rattle.lorel_ast.specs.Printing.{print_from, print_more_ranges}
use Rattle.lorel_ast.proofs.print_selects.put_from.Given as goal

abbrev pub invariant-others : goal.invariant-others
invariant-others l = (rest : List Kind) → l.fn.out ++ spaced (print_from (map from_tree l.fn.ranges) rest)
    ≡ l.out ++ spaced (print_more_ranges (map from_tree (drop l.item-index l.others)) rest)
