use Rattle.std.proofs.Common.{map, ap, ◌∙◌}
use Rattle.edge_layers.specs.declared.places.Placed.{Placed}
use Rattle.edge_layers.proofs.PlaceLaws.{places_are, placed_cmp, placed_never, placed_same}
use Rattle.edge_layers.proofs.places.places_by_child.Goals as goal

pub returns : goal.returns
returns c = places_are placed_cmp c.args.edges.now c.in_ok-placed.placed c.in_ok-sorted.sorted c.in_ok-places.places.items placed_never c.in_ok-placed.ensures
    c.in_ok-sorted.ensures.ascend (c.in_ok-sorted.ensures.members placed_same)
    (c.in_ok-places.ensures ∙ ap (map (λ (p : Placed). p.place)) c.as_slice.ensures)
