use Rattle.std.proofs.Common.{◌≡◌, ◌++◌, map, take}
use Rattle.oem_reach.proofs.doubts.push_objects.Given as goal

abbrev pub invariant-objects : goal.invariant-objects
invariant-objects l = l.oids ≡ l.fn.oids ++ map (λ object. object.0) (take l.object-index l.object-items)
