use Rattle.std.proofs.Common.{refl}
use Rattle.edge_layers.proofs.PlaceLaws.{placed_none, placed_step}
use Rattle.edge_layers.proofs.places.placed_edges.Goals as goal

pub edges-init : goal.edges-init
edges-init c = rw c.in_ok-placed.ensures placed_none

pub edges-preserved : goal.edges-preserved
edges-preserved c = placed_step c.args.edges.now c.edges.place _ c.edges-test.true c.edges.placed c.push.new.self _ c.edges.invariant c.turned.ensures refl c.in_ok-push.ensures.ok
