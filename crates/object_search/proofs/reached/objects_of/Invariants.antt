use Rattle.std.proofs.Common.{◌≡◌, map, take}
use Rattle.object_search.proofs.reached.objects_of.Given as goal

abbrev pub invariant-places : goal.invariant-places
invariant-places l = l.oids ≡ map (λ place. place.0) (take l.place-index l.fn.places)
