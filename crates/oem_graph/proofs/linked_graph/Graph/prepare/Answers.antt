use Rattle.std.proofs.Common.{◌≡◌, ◌+◌, List, sym, ap, ◌∙◌, refl, subst}
use Rattle.std.specs.Prelude.{vec_capacity}
use Rattle.std.proofs.lemmas.List.{map-id}
use Rattle.lore_base.specs.Databases.{IsWellFormed}
use Rattle.lore_base.specs.ChangeSets.{FitsGraph, AreDead, IsGraphAfter}
use Rattle.lore_base.specs.Deltas.{IsDelta}
use Rattle.edge_lists.specs.Objects.{AreAscendingObjects}
use Rattle.oem_graph.specs.Types.{Oid, ObjectRecord}
use Rattle.oem_graph.specs.Graphs.{RoomyGraph}
use Rattle.oem_graph.specs.Plans.{PlannedGraph, graph_then}
use Rattle.graph_changes.specs.Left.{AreAscendingOids}
use Rattle.oem_graph.specs.inside.Planned.{IsPlan}
use Rattle.oem_graph.proofs.PlanLaws.{prepared, plan-prepared, delta-is}
use Rattle.oem_graph.proofs.linked_graph.Graph.prepare.Goals as goal

pub differing-requires : goal.differing-requires
differing-requires c = subst (λ (l : List ObjectRecord). AreAscendingObjects l) (sym c.as_slice-objects.ensures.value) c.self.invariant.lists.ascend

pub planned_edges-requires-clause-ascend : goal.planned_edges-requires-clause-ascend
planned_edges-requires-clause-ascend c = subst (λ (l : List ObjectRecord). AreAscendingObjects l) (sym c.as_slice-objects.ensures.value) c.self.invariant.lists.ascend

pub planned_edges-requires-clause-chained : goal.planned_edges-requires-clause-chained
planned_edges-requires-clause-chained c = rw c.as_slice-objects.ensures.value c.self.invariant.lists.out

pub planned_edges-requires-clause-dead : goal.planned_edges-requires-clause-dead
planned_edges-requires-clause-dead c = subst (λ (l : List Oid). AreAscendingOids l) (sym c.as_slice-oids.ensures) c.requires.dead.ascend

pub names_only_in-requires-clause-names : goal.names_only_in-requires-clause-names
names_only_in-requires-clause-names c = c.self.invariant.indexable.ordered.names_ascend

pub names_only_in-requires-clause-others : goal.names_only_in-requires-clause-others
names_only_in-requires-clause-others c = c.in_ok-names.ensures.ascend

pub names_only_in-requires-2-clause-names : goal.names_only_in-requires-2-clause-names
names_only_in-requires-2-clause-names c = c.in_ok-names.ensures.ascend

pub names_only_in-requires-2-clause-others : goal.names_only_in-requires-2-clause-others
names_only_in-requires-2-clause-others c = c.self.invariant.indexable.ordered.names_ascend

pub values_gone-requires : goal.values_gone-requires
values_gone-requires c = subst (λ (l : List ObjectRecord). AreAscendingObjects l) (sym c.as_slice-objects.ensures.value) c.self.invariant.lists.ascend

pub invariant_of-result : goal.invariant_of-result
invariant_of-result c =
    let graph = c.self.inside in
    let changes = c.args.changes.now in
    let dead = c.args.dead.now in
    let formed = subst (λ (v : RoomyGraph). IsWellFormed v.graph) (sym c.self.view_is) c.requires.well_formed in
    let fits = subst (λ (v : RoomyGraph). FitsGraph v.graph changes) (sym c.self.view_is) c.requires.fits in
    let are = subst (λ (v : RoomyGraph). AreDead v.graph changes dead) (sym c.self.view_is) c.requires.dead in
    let edges = rw c.as_slice-oids.ensures at c.in_ok-edges.ensures in
    let lists = rw c.as_slice-oids.ensures at c.in_ok-given.ensures in
    let differ = rw c.as_slice-objects.ensures.value at c.in_ok-objects_come.ensures in
    let dead_is : c.in_ok-dead_too.dead_too ≡ dead = sym (map-id c.in_ok-dead_too.dead_too) ∙ c.in_ok-dead_too.ensures ∙ map-id dead in
    subst (λ (d : List Oid). IsPlan d c.in_ok-objects_come.objects_come c.in_ok-edges.edges.gone c.in_ok-edges.edges.come c.in_ok-edges.edges.by_child.items c.in_ok-edges.edges.keys.items
    (vec_capacity c.in_ok-edges.edges.keys)) (sym dead_is)
    (plan-prepared graph.names graph.objects.items graph.records graph.next changes formed fits dead are _ _ _ _ _ edges c.in_ok-given.given c.in_ok-objects_come.objects_come lists differ)

pub returns : goal.returns
returns c =
    let graph = c.self.inside in
    let changes = c.args.changes.now in
    let dead = c.args.dead.now in
    let formed = subst (λ (v : RoomyGraph). IsWellFormed v.graph) (sym c.self.view_is) c.requires.well_formed in
    let fits = subst (λ (v : RoomyGraph). FitsGraph v.graph changes) (sym c.self.view_is) c.requires.fits in
    let are = subst (λ (v : RoomyGraph). AreDead v.graph changes dead) (sym c.self.view_is) c.requires.dead in
    let edges = rw c.as_slice-oids.ensures at c.in_ok-edges.ensures in
    let lists = rw c.as_slice-oids.ensures at c.in_ok-given.ensures in
    let differ = rw c.as_slice-objects.ensures.value at c.in_ok-objects_come.ensures in
    let dead_is : c.in_ok-dead_too.dead_too ≡ dead = sym (map-id c.in_ok-dead_too.dead_too) ∙ c.in_ok-dead_too.ensures ∙ map-id dead in
    let plan : PlannedGraph = record {
      names = c.in_ok-names.names;
      dead = c.in_ok-dead_too.dead_too;
      delta = record {
        names_gone = c.in_ok-names_gone.names_gone;
        names_come = c.in_ok-names_come.names_come;
        objects_gone = c.in_ok-objects_gone.objects_gone;
        objects_come = c.in_ok-objects_come.objects_come;
        edges_gone = c.in_ok-edges.edges.gone;
        edges_come = c.in_ok-edges.edges.come;
      };
      next = graph.next + c.len.result;
    } in
    let goes = rw (c.as_slice-objects.ensures.value, c.as_slice-oids.ensures, c.as_slice.ensures) at c.in_ok-objects_gone.ensures in
    record {
      after = subst (λ (v : RoomyGraph). IsGraphAfter v.graph changes (graph_then v.graph plan)) c.self.view_is
          (prepared graph.names graph.objects.items graph.records graph.next changes formed fits dead are _ _ _ _ _ edges c.in_ok-given.given c.in_ok-objects_come.objects_come lists differ
          plan c.in_ok-names.ensures.ascend dead_is refl refl refl c.in_ok-names.ensures.members (ap (λ n. graph.next + n) c.len.ensures));
      delta = subst (λ (v : RoomyGraph). IsDelta v.graph (graph_then v.graph plan) plan.delta) c.self.view_is
          (delta-is graph.names graph.objects.items graph.records graph.next changes formed fits dead are _ _ _ _ _ edges c.in_ok-given.given c.in_ok-objects_come.objects_come lists differ
          plan c.in_ok-names.ensures.ascend dead_is refl refl refl c.in_ok-names_gone.ensures c.in_ok-names_come.ensures goes);
    }
