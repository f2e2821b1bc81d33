use Rattle.std.proofs.Common.{◌≡◌, List, ◌++◌, drop}
use Rattle.lorel_lex.specs.Writing.{spaced}
use Rattle.lorel_trees.specs.Types.{Kind}
use Rattle.lorel_ast.specs.Printing.{print_dump_edges}
use Rattle.lorel_ast.proofs.print_dumps.put_dump_edges.Given as goal

abbrev pub invariant-edges : goal.invariant-edges
invariant-edges l = (rest : List Kind) → l.fn.out ++ spaced (print_dump_edges l.edges rest) ≡ l.out ++ spaced (print_dump_edges (drop l.entry-index l.edges) rest)
