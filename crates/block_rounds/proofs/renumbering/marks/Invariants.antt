use Rattle.block_rounds.specs.inside.Renumbering.{AreMarksBelow}
use Rattle.block_rounds.proofs.renumbering.marks.Given as goal

abbrev pub invariant-nodes : goal.invariant-nodes
invariant-nodes l = AreMarksBelow l.node l.kinds l.signatures l.numbers l.heads l.marks.items
