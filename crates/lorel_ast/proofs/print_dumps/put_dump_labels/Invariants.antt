use Rattle.std.proofs.Common.{◌≡◌, List, ◌++◌, drop}
use Rattle.lorel_lex.specs.Writing.{spaced}
use Rattle.lorel_trees.specs.Types.{Kind}
use Rattle.lorel_ast.specs.Printing.{print_dump_labels}
use Rattle.lorel_ast.proofs.print_dumps.put_dump_labels.Given as goal

abbrev pub invariant-labels : goal.invariant-labels
invariant-labels l = (rest : List Kind) → l.fn.out ++ spaced (print_dump_labels l.labels rest) ≡ l.out ++ spaced (print_dump_labels (drop l.label-index l.labels) rest)
