use Rattle.std.proofs.Common.{◌≡◌, List, map, sym, ap, ◌∙◌, subst}
use Rattle.lore_base.specs.Databases.{AreAscendingObjects, AreAscendingEdges}
use Rattle.edge_lists.specs.Objects.{object_of}
use Rattle.edge_lists.specs.Views.{edges_of}
use Rattle.oem_graph.specs.Types.{Oid, Edge, Value}
use Rattle.oem_graph.specs.Graphs.{RoomyGraph}
use Rattle.oem_graph.specs.Plans.{PlannedGraph, graph_then}
use Rattle.graph_changes.specs.Puts.{put_edges, with_objects}
use Rattle.edge_layers.specs.Layers.{staying}
use Rattle.graph_changes.specs.Left.{not_dead}
use Rattle.oem_graph.proofs.PlanLaws.{read-then}
use Rattle.oem_graph.proofs.linked_graph.Graph.then.Goals as goal

pub invariant_of-result : goal.invariant_of-result
invariant_of-result c =
    let graph = c.self.inside in
    let plan = c.plan.inside in
    let objects : map object_of graph.objects.items ≡ c.args.self.now.graph.objects = ap (λ (v : RoomyGraph). v.graph.objects) c.self.view_is in
    let edges : edges_of graph.records ≡ c.args.self.now.graph.edges = ap (λ (v : RoomyGraph). v.graph.edges) c.self.view_is in
    let dead : plan.dead ≡ c.args.plan.now.dead = ap (λ (p : PlannedGraph). p.dead) c.plan.view_is in
    let given : plan.delta.objects_come ≡ c.args.plan.now.delta.objects_come = ap (λ (p : PlannedGraph). p.delta.objects_come) c.plan.view_is in
    let gone : plan.delta.edges_gone ≡ c.args.plan.now.delta.edges_gone = ap (λ (p : PlannedGraph). p.delta.edges_gone) c.plan.view_is in
    let come : plan.delta.edges_come ≡ c.args.plan.now.delta.edges_come = ap (λ (p : PlannedGraph). p.delta.edges_come) c.plan.view_is in
    let objects_then : with_objects (not_dead plan.dead (map object_of graph.objects.items)) plan.delta.objects_come ≡ (graph_then c.args.self.now.graph c.args.plan.now).objects
    = λ i. with_objects (not_dead (dead i) (objects i)) (given i) in
    let edges_then : put_edges (staying plan.delta.edges_gone (edges_of graph.records)) plan.delta.edges_come ≡ (graph_then c.args.self.now.graph c.args.plan.now).edges
    = λ i. put_edges (staying (gone i) (edges i)) (come i) in
    read-then graph.objects.items c.as_slice.result.now graph.records plan.dead c.as_slice-2.result.now plan.delta.objects_come c.as_slice-3.result.now plan.delta.edges_gone c.as_slice-4.result.now
    plan.delta.edges_come c.as_slice-5.result.now _ _ _ c.plan.invariant c.self.invariant.lists
    (subst (λ (l : List (Oid × Value)). AreAscendingObjects l) (sym objects_then) c.requires.objects)
    (subst (λ (l : List Edge). AreAscendingEdges l) (sym edges_then) c.requires.edges)
    c.as_slice.ensures.value c.as_slice-2.ensures c.as_slice-3.ensures c.as_slice-4.ensures c.as_slice-5.ensures

pub returns-clause-objects : goal.returns-clause-objects
returns-clause-objects c =
    let graph = c.self.inside in
    let dead = c.as_slice-2.ensures ∙ ap (λ (p : PlannedGraph). p.dead) c.plan.view_is in
    let given = c.as_slice-3.ensures ∙ ap (λ (p : PlannedGraph). p.delta.objects_come) c.plan.view_is in
    let objects = ap (map object_of) c.as_slice.ensures.value ∙ ap (λ (v : RoomyGraph). v.graph.objects) c.self.view_is in
    λ i. with_objects (not_dead (dead i) (objects i)) (given i)

pub returns-clause-edges : goal.returns-clause-edges
returns-clause-edges c =
    let gone = c.as_slice-4.ensures ∙ ap (λ (p : PlannedGraph). p.delta.edges_gone) c.plan.view_is in
    let come = c.as_slice-5.ensures ∙ ap (λ (p : PlannedGraph). p.delta.edges_come) c.plan.view_is in
    let edges = ap (λ (v : RoomyGraph). v.graph.edges) c.self.view_is in
    λ i. put_edges (staying (gone i) (edges i)) (come i)
