use Rattle.std.proofs.Common.{◌≡◌, ◌++◌, take, map}
use Rattle.std.specs.List.{filter}
use Rattle.edge_layers.specs.Types.{In}
use Rattle.edge_layers.specs.Turned.{turn, has_label}
use Rattle.edge_layers.proofs.layers.push_turned.Given as goal

abbrev pub invariant-edges : goal.invariant-edges
invariant-edges l = l.buf ≡ l.fn.buf ++ map (turn In) (filter (has_label l.given) (take l.edge-index l.edges))
