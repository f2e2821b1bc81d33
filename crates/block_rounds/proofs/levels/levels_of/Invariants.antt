use Rattle.std.proofs.Common.{nat_eq}
use Rattle.indexmap.specs.IndexMap.{get}
use Rattle.block_rounds.specs.inside.Levels.{AreLevelsBelow}
use Rattle.block_rounds.proofs.levels.levels_of.Given as goal

abbrev pub invariant-nodes : goal.invariant-nodes
invariant-nodes l = AreLevelsBelow l.node l.numbers (get nat_eq l.known) l.heads.items l.levels.items
