use Rattle.std.proofs.Common.{◌≡◌, take}
use Rattle.set_steps.specs.inside.Arcs.{arcs_of}
use Rattle.set_steps.proofs.arcs.list_arcs.Given as goal

abbrev pub invariant-edges : goal.invariant-edges
invariant-edges l = l.arcs ≡ arcs_of (take l.edge-index l.fn.edges)
