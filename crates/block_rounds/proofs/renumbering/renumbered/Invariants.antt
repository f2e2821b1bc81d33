use Rattle.indexmap.specs.IndexMap.{get}
use Rattle.block_rounds.specs.Given.{pair_eq}
use Rattle.block_rounds.specs.inside.Renumbering.{AreGivenBelow}
use Rattle.block_rounds.proofs.renumbering.renumbered.Given as goal

abbrev pub invariant-nodes : goal.invariant-nodes
invariant-nodes l = AreGivenBelow l.node l.numbers l.marks l.fn.heads.items (get pair_eq l.fresh) l.heads.items l.next.items
