use Rattle.std.proofs.Common.{◌≡◌, List, ◌++◌, drop}
use Rattle.lorel_lex.specs.Writing.{spaced}
use Rattle.lorel_trees.specs.Types.{Kind}
use Rattle.lorel_trees.specs.Statements.{spell_dump_objects}
use Rattle.lorel_ast.proofs.print_dumps.put_dump_objects.Given as goal

abbrev pub invariant-objects : goal.invariant-objects
invariant-objects l = (rest : List Kind) → l.fn.out ++ spaced (spell_dump_objects l.objects rest) ≡ l.out ++ spaced (spell_dump_objects (drop l.entry-index l.objects) rest)
