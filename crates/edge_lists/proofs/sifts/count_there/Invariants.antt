use Rattle.std.proofs.Common.{◌≡◌, ◌≤◌, take, length}
use Rattle.edge_lists.specs.Views.{those_there}
use Rattle.edge_lists.proofs.sifts.count_there.Given as goal

abbrev pub invariant-edges : goal.invariant-edges
invariant-edges l = record {
  is : l.count ≡ length (those_there l.records (take l.place l.edges));
  few : l.count ≤ l.place;
}
