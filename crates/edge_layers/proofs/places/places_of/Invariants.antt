use Rattle.std.proofs.Common.{◌≡◌, take, map}
use Rattle.edge_layers.specs.declared.places.Placed.{Placed}
use Rattle.edge_layers.proofs.places.places_of.Given as goal

abbrev pub invariant-placed : goal.invariant-placed
invariant-placed l = l.places.items ≡ map (λ (p : Placed). p.place) (take l.one-index l.placed)
