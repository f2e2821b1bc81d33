use Rattle.std.proofs.Common.{◌≡◌, List, ◌++◌, map, drop}
use Rattle.lore_base.specs.Paths.{path_tree, path_trees, trees_of}
use Rattle.lorel_lex.specs.Writing.{spaced}
use Rattle.lorel_trees.specs.Types.{Kind}
use Rattle.lorel_ast.specs.Printing.{print_parts, print_alt, print_bars}
use Rattle.lorel_ast.proofs.print_paths.+part.Given as goal

abbrev pub invariant-put_parts-parts : goal.invariant-put_parts-parts
invariant-put_parts-parts l = (rest : List Kind) → l.fn.out ++ spaced (print_parts (trees_of (path_trees l.fn.parts)) rest)
    ≡ l.out ++ spaced (print_parts (trees_of (map path_tree (drop l.part-index l.part-items))) rest)

abbrev pub invariant-put_choices-others : goal.invariant-put_choices-others
invariant-put_choices-others l = (rest : List Kind) → l.fn.out ++ spaced (print_alt (trees_of (path_trees l.fn.parts)) rest)
    ≡ l.out ++ spaced (print_bars (trees_of (map path_tree (drop l.part-index l.others))) rest)
