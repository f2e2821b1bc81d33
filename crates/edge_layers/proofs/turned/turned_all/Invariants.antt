use Rattle.std.proofs.Common.{◌≡◌, take, map}
use Rattle.edge_layers.specs.Turned.{turn}
use Rattle.edge_layers.proofs.turned.turned_all.Given as goal

abbrev pub invariant-edges : goal.invariant-edges
invariant-edges l = l.all ≡ map (turn l.side) (take l.edge-index l.edges)
