use Rattle.std.proofs.Common.{ℕ, ◌<◌, All, Contains}
use Rattle.block_haste.proofs.starting.all_below.Given as goal

abbrev pub invariant-nodes : goal.invariant-nodes
invariant-nodes l = record {
  every : (node : ℕ) → node < l.node → Contains l.nodes.items node;
  within : All (λ node. node < l.count) l.nodes.items;
}
