use Rattle.std.proofs.Common.{◌≡◌, List, ◌++◌, drop}
use Rattle.lorel_lex.specs.Writing.{spaced}
use Rattle.lorel_trees.specs.Types.{Kind}
use Rattle.lorel_ast.specs.Printing.{print_labels}
use Rattle.lorel_ast.proofs.print_paths.put_labels.Given as goal

abbrev pub invariant-labels : goal.invariant-labels
invariant-labels l = (rest : List Kind) → l.fn.out ++ spaced (print_labels l.labels rest) ≡ l.out ++ spaced (print_labels (drop l.label-index l.labels) rest)
