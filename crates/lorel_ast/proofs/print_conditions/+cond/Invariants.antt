use Rattle.std.proofs.Common.{◌≡◌, List, ◌++◌, map, drop}
use Rattle.lorel_lex.specs.Writing.{spaced}
use Rattle.lorel_trees.specs.Types.{Kind}
use Rattle.lorel_trees.specs.Trees.{cond_tree, cond_trees, conds_from}
use Rattle.lorel_ast.specs.Printing.{print_joined, print_more_conds}
use Rattle.lorel_ast.proofs.print_conditions.+cond.Given as goal

abbrev pub invariant-put_joined-others : goal.invariant-put_joined-others
invariant-put_joined-others l = (rest : List Kind) → l.fn.out ++ spaced (print_joined (conds_from (cond_trees l.fn.members)) l.join l.place rest)
    ≡ l.out ++ spaced (print_more_conds (conds_from (map cond_tree (drop l.member-index l.others))) l.join l.place rest)
