use Rattle.std.proofs.Common.{take}
use Rattle.edge_lists.specs.Commits.{AreTaken}
use Rattle.edge_lists.proofs.commits.take_all.Given as goal

abbrev pub invariant-gone : goal.invariant-gone
invariant-gone l = AreTaken (take l.place l.gone) l.fn.objects l.fn.records l.objects l.records
