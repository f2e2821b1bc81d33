use Rattle.std.proofs.Common.{◌≡◌, ◌++◌, map, drop}
use Rattle.updates.specs.inside.Stamps.{moved}
use Rattle.updates.proofs.stamps.put_moved.Given as goal

abbrev pub invariant-places : goal.invariant-places
invariant-places l = l.edges ++ map (moved l.base) (drop l.edge-index l.places) ≡ l.fn.edges ++ map (moved l.base) l.places
