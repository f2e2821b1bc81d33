use Rattle.std.proofs.Common.{◌≡◌, take}
use Rattle.set_steps.specs.inside.Arcs.{leaving}
use Rattle.set_steps.proofs.step_reader.list_edges.Given as goal

abbrev pub invariant-oids : goal.invariant-oids
invariant-oids l = l.edges ≡ leaving l.listed (take l.oid-index l.oid-items)
