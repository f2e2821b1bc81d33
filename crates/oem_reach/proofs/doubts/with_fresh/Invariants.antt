use Rattle.std.proofs.Common.{◌≡◌, ◌++◌, take, filter}
use Rattle.oem_reach.specs.inside.Doubts.{is_listed}
use Rattle.oem_reach.proofs.doubts.with_fresh.Given as goal

abbrev pub invariant-fresh : goal.invariant-fresh
invariant-fresh l = l.all ≡ l.fn.edges ++ filter (λ edge. is_listed l.fn.oids edge.child) (take l.edge-index l.fn.fresh)
