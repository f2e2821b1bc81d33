use Rattle.std.proofs.Common.{◌≡◌, take}
use Rattle.statements.proofs.AllEdgesLaws.{leaving, oids_of}
use Rattle.statements.proofs.dumps.all_edges.Given as goal

abbrev pub invariant-objects : goal.invariant-objects
invariant-objects g l = l.edges ≡ leaving l.graph.graph.edges (take l.place (oids_of l.graph.graph.objects))
