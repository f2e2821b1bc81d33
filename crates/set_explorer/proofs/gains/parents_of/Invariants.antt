use Rattle.std.proofs.Common.{◌≡◌, take}
use Rattle.set_explorer.specs.Touched.{parents_of}
use Rattle.set_explorer.proofs.gains.parents_of.Given as goal

abbrev pub invariant-edges : goal.invariant-edges
invariant-edges l = l.oids ≡ parents_of (take l.edge-index l.fn.edges)
