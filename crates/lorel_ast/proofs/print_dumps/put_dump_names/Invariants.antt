use Rattle.std.proofs.Common.{◌≡◌, List, ◌++◌, drop}
use Rattle.lorel_lex.specs.Writing.{spaced}
use Rattle.lorel_trees.specs.Types.{Kind}
use Rattle.lorel_ast.specs.Printing.{print_dump_names}
use Rattle.lorel_ast.proofs.print_dumps.put_dump_names.Given as goal

abbrev pub invariant-names : goal.invariant-names
invariant-names l = (rest : List Kind) → l.fn.out ++ spaced (print_dump_names l.names rest) ≡ l.out ++ spaced (print_dump_names (drop l.entry-index l.names) rest)
