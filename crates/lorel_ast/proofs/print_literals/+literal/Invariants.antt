use Rattle.std.proofs.Common.{◌≡◌, List, ◌++◌, map, drop}
use Rattle.lorel_lex.specs.Writing.{spaced}
use Rattle.lorel_trees.specs.Types.{Kind}
use Rattle.lorel_trees.specs.Trees.{member_tree, member_trees, members_from}
use Rattle.lorel_ast.specs.Printing.{print_members, print_more_members}
use Rattle.lorel_ast.proofs.print_literals.+literal.Given as goal

abbrev pub invariant-put_members-others : goal.invariant-put_members-others
invariant-put_members-others l = (rest : List Kind) → l.fn.out ++ spaced (print_members (members_from (member_trees l.fn.members)) rest)
    ≡ l.out ++ spaced (print_more_members (members_from (map member_tree (drop l.member-index l.others))) rest)
