use Rattle.std.proofs.Common.{List, sym, ap, ◌∙◌, refl, subst, arith}
use Rattle.lore_base.specs.Databases.{AreAscendingEdges}
use Rattle.edge_lists.specs.Objects.{AreAscendingObjects}
use Rattle.oem_graph.specs.Types.{Edge}
use Rattle.oem_graph.specs.Graphs.{RoomyGraph}
use Rattle.oem_graph.specs.Plans.{PlannedGraph, graph_then}
use Rattle.oem_graph.proofs.CommitLaws.{leads-inside, room-inside, can-commit, same-length, dropped-is, graph-then, linked-then}
use Rattle.graph_changes.proofs.RecordLaws.{with_all}
use Rattle.oem_graph.proofs.linked_graph.Graph.commit.Goals as goal

pub commit_edges-requires-clause-room : goal.commit_edges-requires-clause-room
commit_edges-requires-clause-room c =
    let plan : PlannedGraph = record { names = c.plan.inside.names; dead = c.plan.inside.dead; delta = c.plan.inside.delta; next = c.plan.inside.next } in
    rw c.as_slice.ensures (room-inside _ _ plan _ c.self.inside.records c.self.view_is c.plan.view_is refl c.requires.room.edges
    (omega (arith, c.capacity-capacity.ensures.holds_all, c.capacity-capacity.ensures.value)))

pub commit_edges-requires-clause-parents : goal.commit_edges-requires-clause-parents
commit_edges-requires-clause-parents c =
    let plan : PlannedGraph = record { names = c.plan.inside.names; dead = c.plan.inside.dead; delta = c.plan.inside.delta; next = c.plan.inside.next } in
    let ready = can-commit c.self.inside.names c.self.inside.objects.items c.self.inside.records c.self.inside.next plan c.self.invariant.lists _ _ _ c.plan.invariant
    (leads-inside _ _ plan _ c.self.view_is c.plan.view_is c.requires.leads)
    c.put_objects.new.objects.items c.as_mut_slice.result.now c.as_slice.result.now c.put_objects.ensures c.as_mut_slice.ensures.value c.as_slice.ensures in
    ready.parents

pub commit_edges-requires-clause-children : goal.commit_edges-requires-clause-children
commit_edges-requires-clause-children c =
    let plan : PlannedGraph = record { names = c.plan.inside.names; dead = c.plan.inside.dead; delta = c.plan.inside.delta; next = c.plan.inside.next } in
    let ready = can-commit c.self.inside.names c.self.inside.objects.items c.self.inside.records c.self.inside.next plan c.self.invariant.lists _ _ _ c.plan.invariant
    (leads-inside _ _ plan _ c.self.view_is c.plan.view_is c.requires.leads)
    c.put_objects.new.objects.items c.as_mut_slice.result.now c.as_slice.result.now c.put_objects.ensures c.as_mut_slice.ensures.value c.as_slice.ensures in
    ready.children

pub commit_edges-requires-clause-new : goal.commit_edges-requires-clause-new
commit_edges-requires-clause-new c =
    let plan : PlannedGraph = record { names = c.plan.inside.names; dead = c.plan.inside.dead; delta = c.plan.inside.delta; next = c.plan.inside.next } in
    let ready = can-commit c.self.inside.names c.self.inside.objects.items c.self.inside.records c.self.inside.next plan c.self.invariant.lists _ _ _ c.plan.invariant
    (leads-inside _ _ plan _ c.self.view_is c.plan.view_is c.requires.leads)
    c.put_objects.new.objects.items c.as_mut_slice.result.now c.as_slice.result.now c.put_objects.ensures c.as_mut_slice.ensures.value c.as_slice.ensures in
    ready.new

pub commit_edges-requires-clause-out : goal.commit_edges-requires-clause-out
commit_edges-requires-clause-out c =
    let plan : PlannedGraph = record { names = c.plan.inside.names; dead = c.plan.inside.dead; delta = c.plan.inside.delta; next = c.plan.inside.next } in
    let ready = can-commit c.self.inside.names c.self.inside.objects.items c.self.inside.records c.self.inside.next plan c.self.invariant.lists _ _ _ c.plan.invariant
    (leads-inside _ _ plan _ c.self.view_is c.plan.view_is c.requires.leads)
    c.put_objects.new.objects.items c.as_mut_slice.result.now c.as_slice.result.now c.put_objects.ensures c.as_mut_slice.ensures.value c.as_slice.ensures in
    ready.out

pub commit_edges-requires-clause-entering : goal.commit_edges-requires-clause-entering
commit_edges-requires-clause-entering c =
    let plan : PlannedGraph = record { names = c.plan.inside.names; dead = c.plan.inside.dead; delta = c.plan.inside.delta; next = c.plan.inside.next } in
    let ready = can-commit c.self.inside.names c.self.inside.objects.items c.self.inside.records c.self.inside.next plan c.self.invariant.lists _ _ _ c.plan.invariant
    (leads-inside _ _ plan _ c.self.view_is c.plan.view_is c.requires.leads)
    c.put_objects.new.objects.items c.as_mut_slice.result.now c.as_slice.result.now c.put_objects.ensures c.as_mut_slice.ensures.value c.as_slice.ensures in
    ready.entering

pub commit_edges-requires-clause-order : goal.commit_edges-requires-clause-order
commit_edges-requires-clause-order c = subst (λ (l : List Edge). AreAscendingEdges l) (sym c.as_slice.ensures) c.plan.invariant.come_ascend

pub commit_edges-requires-clause-places : goal.commit_edges-requires-clause-places
commit_edges-requires-clause-places c = rw (c.as_slice.ensures, c.as_slice-2.ensures.value) c.plan.invariant.places

pub drop_objects-requires-clause-objects : goal.drop_objects-requires-clause-objects
drop_objects-requires-clause-objects c =
    subst AreAscendingObjects (sym (with_all c.commit_edges.new.objects c.put_objects.new.objects.items c.put_objects.new.objects.len
    (sym c.as_mut_slice.ensures.len ∙ sym (same-length _ _ c.commit_edges.ensures.objects)))) c.commit_edges.ensures.ascend

pub invariant_of-self : goal.invariant_of-self
invariant_of-self c =
    let plan : PlannedGraph = record { names = c.plan.inside.names; dead = c.plan.inside.dead; delta = c.plan.inside.delta; next = c.plan.inside.next } in
    let changed = rw (c.as_slice.ensures, c.as_slice-3.ensures, c.as_mut_slice.ensures.value) at c.commit_edges.ensures in
    let written = with_all c.commit_edges.new.objects c.put_objects.new.objects.items c.put_objects.new.objects.len
    (sym c.as_mut_slice.ensures.len ∙ sym (same-length _ _ c.commit_edges.ensures.objects)) in
    let dropped = dropped-is plan.dead c.as_slice-5.result.now c.commit_edges.new.objects _ c.drop_objects.new.objects.items c.as_slice-5.ensures written c.drop_objects.ensures in
    linked-then c.self.inside.names c.self.inside.objects.items c.self.inside.records c.self.inside.next plan c.self.invariant.lists _ _ _ c.plan.invariant
    (leads-inside _ _ plan _ c.self.view_is c.plan.view_is c.requires.leads)
    c.put_objects.new.objects.items c.put_objects.ensures c.commit_edges.new.objects c.commit_edges.new.records changed c.drop_objects.new.objects.items dropped

pub returns : goal.returns
returns c =
    let plan : PlannedGraph = record { names = c.plan.inside.names; dead = c.plan.inside.dead; delta = c.plan.inside.delta; next = c.plan.inside.next } in
    let changed = rw (c.as_slice.ensures, c.as_slice-3.ensures, c.as_mut_slice.ensures.value) at c.commit_edges.ensures in
    let written = with_all c.commit_edges.new.objects c.put_objects.new.objects.items c.put_objects.new.objects.len
    (sym c.as_mut_slice.ensures.len ∙ sym (same-length _ _ c.commit_edges.ensures.objects)) in
    let dropped = dropped-is plan.dead c.as_slice-5.result.now c.commit_edges.new.objects _ c.drop_objects.new.objects.items c.as_slice-5.ensures written c.drop_objects.ensures in
    graph-then c.self.inside.names c.self.inside.objects.items c.self.inside.records c.self.inside.next plan c.self.invariant.lists _ _ _ c.plan.invariant
    (leads-inside _ _ plan _ c.self.view_is c.plan.view_is c.requires.leads)
    c.put_objects.new.objects.items c.put_objects.ensures c.commit_edges.new.objects c.commit_edges.new.records changed c.drop_objects.new.objects.items dropped
    ∙ ap (λ (v : RoomyGraph). graph_then v.graph plan) c.self.view_is ∙ ap (graph_then c.args.self.now.graph) c.plan.view_is
