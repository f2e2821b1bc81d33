use Rattle.std.proofs.Common.{◌<◌, List, length, ap, ◌∙◌, arith, rules}
use Rattle.edge_lists.specs.Views.{those_there}
use Rattle.oem_graph.specs.Types.{Edge}
use Rattle.oem_graph.specs.Graphs.{RoomyGraph}
use Rattle.oem_graph.specs.Plans.{PlannedGraph, graph_then}
use Rattle.oem_graph.proofs.ChangeLaws.{length-left, length-then}
use Rattle.oem_graph.proofs.GraphLaws.{few-records}
use Rattle.edge_layers.proofs.ViewLaws.{count-edges}
use Rattle.oem_graph.proofs.linked_graph.Graph.edges_then.Goals as goal

pub overflow_sub-result : goal.overflow_sub-result
overflow_sub-result c =
    let graph = c.self.inside in
    let plan = c.plan.inside in
    let gone = c.count_there-gone.ensures ∙ ap (λ (l : List Edge). length (those_there graph.records l)) c.as_slice-2.ensures in
    omega (arith, gone, length-left graph.records plan.delta.edges_gone c.plan.invariant.gone_ascend, count-edges graph.objects.items graph.records c.self.invariant.lists, c.len.ensures)

pub overflow_add-result : goal.overflow_add-result
overflow_add-result c =
    let few : length c.as_slice-4.result.now < 9_223_372_036_854_775_808 = search rules in
    omega (arith, few, c.len.ensures, few-records c.self.inside.names c.self.inside.objects.items c.self.inside.records c.self.inside.next c.self.invariant)

pub returns : goal.returns
returns c =
    let graph = c.self.inside in
    let inside = c.plan.inside in
    let plan : PlannedGraph = record { names = inside.names; dead = inside.dead; delta = inside.delta; next = inside.next } in
    let gone = c.count_there-gone.ensures ∙ ap (λ (l : List Edge). length (those_there graph.records l)) c.as_slice-2.ensures in
    let count = length-then graph.records inside.delta.edges_gone inside.delta.edges_come c.plan.invariant.gone_ascend in
    let left = length-left graph.records inside.delta.edges_gone c.plan.invariant.gone_ascend in
    let all = count-edges graph.objects.items graph.records c.self.invariant.lists in
    let seen = ap (λ (v : RoomyGraph). length (graph_then v.graph plan).edges) c.self.view_is in
    let planned = ap (λ (p : PlannedGraph). length (graph_then c.args.self.now.graph p).edges) c.plan.view_is in
    omega (arith, gone, count, left, all, c.len.ensures, ap length c.as_slice-4.ensures, seen, planned)
