use Rattle.std.proofs.Common.{length, ap, subst, arith}
use Rattle.std.proofs.lemmas.List.{length-map}
use Rattle.edge_lists.specs.Objects.{object_of}
use Rattle.oem_graph.specs.Graphs.{RoomyGraph, IsIndexable}
use Rattle.oem_graph.proofs.GraphLaws.{few-objects}
use Rattle.oem_graph.proofs.linked_graph.Graph.objects.Goals as goal

pub overflow_cast-result : goal.overflow_cast-result
overflow_cast-result c =
    omega (arith, c.len.ensures, few-objects c.self.inside.names c.self.inside.objects.items c.self.inside.records c.self.inside.next c.self.invariant)

pub returns-clause-count : goal.returns-clause-count
returns-clause-count c =
    let seen = ap (λ (v : RoomyGraph). length v.graph.objects) c.self.view_is in
    omega (arith, c.len.ensures, seen, length-map c.self.inside.objects.items object_of)

pub returns-clause-indexable : goal.returns-clause-indexable
returns-clause-indexable c = subst (λ (v : RoomyGraph). IsIndexable v.graph) c.self.view_is c.self.invariant.indexable
