use Rattle.std.proofs.Common.{length, map, ap, ◌∙◌}
use Rattle.edge_lists.specs.Objects.{object_of}
use Rattle.oem_graph.specs.Graphs.{RoomyGraph}
use Rattle.oem_graph.specs.Plans.{PlannedGraph}
use Rattle.graph_changes.specs.Puts.{with_objects}
use Rattle.graph_changes.specs.Left.{not_dead}
use Rattle.oem_graph.proofs.linked_graph.Graph.objects_then.Goals as goal

pub returns : goal.returns
returns c =
    let objects = ap (map object_of) c.as_slice.ensures.value ∙ ap (λ (v : RoomyGraph). v.graph.objects) c.self.view_is in
    let dead = c.as_slice-2.ensures ∙ ap (λ (p : PlannedGraph). p.dead) c.plan.view_is in
    let given = c.as_slice-3.ensures ∙ ap (λ (p : PlannedGraph). p.delta.objects_come) c.plan.view_is in
    c.count_objects.ensures ∙ (λ i. length (with_objects (not_dead (dead i) (objects i)) (given i)))
