use Rattle.std.proofs.Common.{take}
use Rattle.graph_changes.specs.inside.Leaving.{AreLeaving}
use Rattle.graph_changes.proofs.edges_then.leaving_edges.Given as goal

abbrev pub invariant-oids : goal.invariant-oids
invariant-oids l = AreLeaving l.records (take l.oid-index l.oids) l.edges
