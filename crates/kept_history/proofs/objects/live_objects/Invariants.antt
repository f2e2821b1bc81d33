use Rattle.std.proofs.Common.{◌≡◌, map, take}
use Rattle.kept_history.proofs.objects.live_objects.Given as goal

abbrev pub invariant-places : goal.invariant-places
invariant-places l = l.oids ≡ take l.place (map (λ object. object.0) l.graph.graph.objects)
