use Rattle.std.proofs.Common.{take}
use Rattle.edge_layers.specs.inside.Places.{ArePlaced}
use Rattle.edge_layers.proofs.places.placed_edges.Given as goal

abbrev pub invariant-edges : goal.invariant-edges
invariant-edges l = ArePlaced (take l.place l.edges) l.placed
