use Rattle.std.proofs.Common.{◌+◌, ◌≤◌, List, length}
use Rattle.edge_layers.specs.Types.{Edge}
use Rattle.edge_layers.specs.inside.Chains.{label_of, slot_among, AreChains, ArePutFrom}
use Rattle.edge_layers.proofs.ChainLaws.{ArePutting}
use Rattle.edge_layers.proofs.join_orders.push_slot.Given as goal

abbrev pub invariant-chain : goal.invariant-chain
invariant-chain l = record {
  within : l.above ≤ length l.chains.back.items;
  put : (edges : List Edge) → AreChains label_of edges l.chains.heads.items l.chains.back.items
      → ArePutFrom (slot_among (length l.chains.heads.items) label_of) edges (l.slot + 1) 0 l.fn.places.items
      → ArePutting (slot_among (length l.chains.heads.items) label_of) edges l.slot l.above l.places.items;
}

abbrev pub decreases-chain : goal.decreases-chain
decreases-chain l = l.above
