use Rattle.std.proofs.Common.{ℕ, ◌<◌, length, All, take}
use Rattle.block_haste.proofs.HasteLaws.{AreNoted}
use Rattle.block_haste.proofs.hastening.differing.Given as goal

abbrev pub invariant-nodes : goal.invariant-nodes
invariant-nodes l = record {
  noted : AreNoted l.tags l.numbers (take l.node-index l.nodes) l.changed.items;
  within : All (λ node. node < length l.numbers) l.changed.items;
}
