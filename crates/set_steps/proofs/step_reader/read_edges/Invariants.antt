use Rattle.std.proofs.Common.{◌≡◌, ◌+◌, take}
use Rattle.set_steps.specs.SetSteps.{reads_of}
use Rattle.set_steps.specs.inside.Arcs.{leaving}
use Rattle.set_steps.proofs.step_reader.read_edges.Given as goal

abbrev pub invariant-oids : goal.invariant-oids
invariant-oids g l = record {
  edges : l.edges ≡ leaving (g.A.Adjacent.edges l.graph) (take l.oid-index l.oid-items);
  steps : l.steps ≡ l.fn.steps + reads_of (g.A.Adjacent.edges l.graph) (take l.oid-index l.oid-items);
}
