use Rattle.std.proofs.Common.{length, ap, subst, arith}
use Rattle.oem_graph.specs.Graphs.{RoomyGraph, IsIndexable}
use Rattle.oem_graph.proofs.GraphLaws.{few-records}
use Rattle.edge_layers.proofs.ViewLaws.{count-edges}
use Rattle.oem_graph.proofs.linked_graph.Graph.edges.Goals as goal

pub overflow_cast-result : goal.overflow_cast-result
overflow_cast-result c =
    omega (arith, c.len.ensures, few-records c.self.inside.names c.self.inside.objects.items c.self.inside.records c.self.inside.next c.self.invariant)

pub returns-clause-count : goal.returns-clause-count
returns-clause-count c =
    let seen = ap (λ (v : RoomyGraph). length v.graph.edges) c.self.view_is in
    omega (arith, c.len.ensures, seen, count-edges c.self.inside.objects.items c.self.inside.records c.self.invariant.lists)

pub returns-clause-indexable : goal.returns-clause-indexable
returns-clause-indexable c = subst (λ (v : RoomyGraph). IsIndexable v.graph) c.self.view_is c.self.invariant.indexable
