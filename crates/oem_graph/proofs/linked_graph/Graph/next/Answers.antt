use Rattle.std.proofs.Common.{subst}
use Rattle.oem_graph.specs.Graphs.{RoomyGraph, IsIndexable}
use Rattle.oem_graph.proofs.linked_graph.Graph.next.Goals as goal

pub returns-clause-indexable : goal.returns-clause-indexable
returns-clause-indexable c = subst (λ (v : RoomyGraph). IsIndexable v.graph) c.self.view_is c.self.invariant.indexable
