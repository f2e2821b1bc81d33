use Rattle.std.proofs.Common.{◌≤◌, length}
use Rattle.edge_layers.specs.inside.Chains.{label_of, slot_among, ArePutFrom}
use Rattle.edge_layers.proofs.join_orders.places_backward.Given as goal

abbrev pub invariant-slots : goal.invariant-slots
invariant-slots l = record {
  put : ArePutFrom (slot_among (length l.chains.heads.items) label_of) l.edges l.slot 0 l.places.items;
  within : l.slot ≤ length l.chains.heads.items;
}

abbrev pub decreases-slots : goal.decreases-slots
decreases-slots l = l.slot
