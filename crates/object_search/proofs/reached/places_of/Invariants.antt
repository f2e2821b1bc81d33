use Rattle.std.proofs.Common.{◌≡◌, map, take}
use Rattle.object_search.specs.inside.Searches.{met_at}
use Rattle.object_search.proofs.reached.places_of.Given as goal

abbrev pub invariant-oids : goal.invariant-oids
invariant-oids l = l.places.items ≡ map met_at (take l.oid-index l.fn.oids)
