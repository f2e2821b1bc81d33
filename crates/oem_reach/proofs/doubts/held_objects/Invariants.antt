use Rattle.std.proofs.Common.{◌≡◌, ◌++◌, take, filter}
use Rattle.oem_reach.specs.inside.Doubts.{is_listed, outer_children}
use Rattle.oem_reach.proofs.doubts.held_objects.Given as goal

abbrev pub invariant-named : goal.invariant-named
invariant-named l = l.held ≡ filter (is_listed l.fn.oids) (take l.oid-index l.fn.named)

abbrev pub invariant-edges : goal.invariant-edges
invariant-edges l = l.held ≡ filter (is_listed l.fn.oids) l.fn.named ++ outer_children l.fn.oids (take l.edge-index l.fn.edges)
