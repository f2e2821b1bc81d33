use Rattle.std.proofs.Common.{◌≡◌, ◌++◌, map, take}
use Rattle.graph_changes.proofs.deltas.push_oids.Given as goal

abbrev pub invariant-objects : goal.invariant-objects
invariant-objects l = l.oids ≡ l.fn.oids ++ map (λ o. o.0) (take l.object-index l.objects)
