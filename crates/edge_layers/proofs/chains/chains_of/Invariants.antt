use Rattle.std.proofs.Common.{◌≡◌, ◌≤◌, length}
use Rattle.edge_layers.specs.inside.Chains.{slot_among, AreHeads, AreBack}
use Rattle.edge_layers.proofs.chains.chains_of.Given as goal

abbrev pub invariant-edges : goal.invariant-edges
invariant-edges g l = record {
  first : AreHeads (slot_among l.count g.K.Key.key_of) l.edges l.heads.items l.place;
  back : AreBack (slot_among l.count g.K.Key.key_of) l.edges l.back.items l.place;
  wide : length l.heads.items ≡ l.count;
  within : l.place ≤ length l.edges;
}
