use Rattle.std.proofs.Common.{take, length, ◌≤◌}
use Rattle.indexmap.specs.IndexMap.{get}
use Rattle.block_rounds.specs.Given.{pair_eq}
use Rattle.block_haste.specs.inside.Hastening.{AreMovesBy}
use Rattle.block_haste.proofs.moving.moves_of.Given as goal

abbrev pub invariant-nodes : goal.invariant-nodes
invariant-nodes l = record {
  moves : AreMovesBy (get pair_eq l.fresh) (take l.node-index l.touched) l.numbers l.marks l.moves.items;
  grown : length l.fn.origins.items ≤ length l.origins.items;
}
