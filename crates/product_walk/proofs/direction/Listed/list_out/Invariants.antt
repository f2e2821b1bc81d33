use Rattle.std.proofs.Common.{◌≡◌, take}
use Rattle.lore_base.specs.Walks.{out_of}
use Rattle.product_walk.proofs.direction.Listed.list_out.Given as goal

abbrev pub invariant-edges : goal.invariant-edges
invariant-edges l = l.buf ≡ out_of l.oid (take l.edge-index l.edge-items)
