use Rattle.one_index.specs.inside.Filled.{AreFilled}
use Rattle.one_index.proofs.filling.blocks_from.Given as goal

abbrev pub invariant-members : goal.invariant-members
invariant-members l = AreFilled l.number l.members l.edges l.blocks.items
