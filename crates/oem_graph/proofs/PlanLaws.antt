-- Plans: what they keep, and what they lead to.
use Rattle.std.proofs.Common.{◌≡◌, ◌⊎◌, ◌↔◌, ℕ, ◌+◌, ◌≤◌, not, Less, List, [], length, get_or, map, All, Contains, sym, ap, ◌∙◌, inl, inr, subst, arith}
use Rattle.std.proofs.lemmas.List.Elements.{Contains-get_or, All-contains}
use Rattle.std.proofs.lemmas.List.Kept.{AllPairs-filter}
use Rattle.list_laws.proofs.MemberLaws.{none_in}
use Rattle.slab.specs.Slab.{Slab}
use Rattle.lore_base.specs.Names.{IsNameTable}
use Rattle.lore_base.specs.Walks.{edge_cmp}
use Rattle.lore_base.specs.Databases.{OemGraph, IsWellFormed, AreAscendingObjects, AreAscendingEdges, new_graph}
use Rattle.lore_base.specs.ChangeSets.{NamesThen, FitsGraph, AreDead, AreEdgesThen, IsGraphAfter}
use Rattle.lore_base.specs.Deltas.{ListsOnlyIn, IsDelta}
use Rattle.edge_lists.specs.Objects.{object_of}
use Rattle.edge_lists.specs.Commits.{ArePlaces}
use Rattle.edge_lists.specs.Views.{edges_of}
use Rattle.edge_lists.proofs.ViewLaws.{edges_lie, edges_ascend}
use Rattle.oem_graph.specs.Types.{Oid, Edge, Value, Changes, EdgeRecord, ObjectRecord}
use Rattle.oem_graph.specs.Graphs.{IsIndexable, graph_from}
use Rattle.oem_graph.specs.Plans.{PlannedGraph, graph_then}
use Rattle.graph_changes.specs.Puts.{with_objects, put_edges}
use Rattle.edge_layers.specs.Layers.{layered, staying}
use Rattle.graph_changes.specs.Left.{AreAscendingOids, is_among, not_dead, ListsGiven}
use Rattle.edge_layers.specs.Lists.{AreLists}
use Rattle.oem_graph.specs.inside.Planned.{IsPlan, IsRead}
use Rattle.graph_changes.specs.Planned.{ArePlannedEdges}
use Rattle.graph_changes.specs.Differing.{AreOnlyIn, AreDiffering, AreGoneObjects}
use Rattle.graph_changes.proofs.DeltaLaws.{same-objects, objects-gone, objects-come, edges-gone, edges-come}
use Rattle.oem_graph.proofs.AfterLaws.{given-ascends, given-lives, graph-after, edges-after}
use Rattle.edge_layers.proofs.FoundLaws.{found-lost, found-fresh}
use Rattle.graph_changes.proofs.EmptyLaws.{no-edges, all-given, all-come}
use Rattle.graph_changes.proofs.GoneLaws.{going}
use Rattle.graph_changes.proofs.LeftLaws.{members-edges_left}
use Rattle.edge_layers.proofs.OverlayLaws.{edges-layered}

-- ---- a plan that brings all of a graph
pub whole-is : (changes : Changes) (next : ℕ) → IsIndexable (graph_from changes next) → (plan : PlannedGraph) → plan.names ≡ changes.named → plan.delta.objects_come ≡ changes.made → plan.delta.edges_come ≡ changes.added
    → plan.next ≡ next → graph_then new_graph plan ≡ graph_from changes next
whole-is changes next leads plan names given come same_next =
    let objects : with_objects [] plan.delta.objects_come ≡ changes.made = ap (with_objects []) given ∙ all-given changes.made leads.ordered.objects_ascend in
    let edges : put_edges [] plan.delta.edges_come ≡ changes.added = ap (put_edges []) come ∙ all-come changes.added leads.ordered.edges_ascend in
    λ i. record { names = names i; objects = objects i; edges = edges i; next = same_next i }

pub plan-whole : (changes : Changes) (next : ℕ) → IsIndexable (graph_from changes next) → (dead : List Oid) (given : List (Oid × Value)) (gone come : List Edge) (by_child keys : List ℕ) (room : ℕ)
    → dead ≡ [] → gone ≡ [] → given ≡ changes.made → come ≡ changes.added → ArePlaces (length come) by_child → keys ≡ [] → length come ≤ room → IsPlan dead given gone come by_child keys room
plan-whole changes next leads dead given gone come by_child keys room no_dead no_gone given_is come_is places no_keys key_room = record {
  dead_ascend = subst AreAscendingOids (sym no_dead) (λ i j d lt len. absurd (omega (arith, len)));
  given_ascend = subst AreAscendingObjects (sym given_is) leads.ordered.objects_ascend;
  given_live = λ k d lt at. none_in dead (get_or given k d).0 no_dead at;
  gone_ascend = subst AreAscendingEdges (sym no_gone) no-edges;
  come_ascend = subst AreAscendingEdges (sym come_is) leads.ordered.edges_ascend;
  apart = λ k d lt at. none_in gone (get_or come k d) no_gone at;
  places = places;
  no_keys = no_keys;
  key_room = key_room;
}

-- ---- a plan of changes
module _ (names : List (List ℕ × Oid)) (objects : List ObjectRecord) (records : Slab EdgeRecord) (next : ℕ) (changes : Changes) where
  abbrev before : OemGraph
  before = record { names = names; objects = map object_of objects; edges = edges_of records; next = next }

  module _ (formed : IsWellFormed (record { names = names; objects = map object_of objects; edges = edges_of records; next = next }))
      (fits : FitsGraph (record { names = names; objects = map object_of objects; edges = edges_of records; next = next }) changes)
      (dead : List Oid) (are : AreDead (record { names = names; objects = map object_of objects; edges = edges_of records; next = next }) changes dead)
      (gone come : List Edge) (by_child keys : List ℕ) (room : ℕ) (edges : ArePlannedEdges records changes dead gone come by_child keys room)
      (given objects_come : List (Oid × Value)) (lists : ListsGiven changes dead given) (differ : AreDiffering (map object_of objects) given objects_come) where
    abbrev kept : List Edge
    kept = edges_of records

    linked : AreEdgesThen kept changes (layered kept edges.lost edges.fresh)
    linked = edges-layered kept changes edges.lost edges.fresh (edges_ascend records) (found-lost records changes.removed edges.lost edges.lost_absent edges.removed)
        (found-fresh records changes.added edges.fresh_there edges.fresh edges.added) fits.apart

    given_ascends : AreAscendingObjects given
    given_ascends = given-ascends before changes formed fits dead are (layered kept edges.lost edges.fresh) linked given lists

    given_lives : All (λ object. ¬ Contains dead object.0) given
    given_lives = given-lives before changes formed fits dead are (layered kept edges.lost edges.fresh) linked given lists

    there : (edge : Edge) → Contains gone edge → Contains kept edge
    there edge at = (edges_lie records edge).1 (elim ((edges.goes.exact edge).0 at) [ inl loses ↦ ((edges.removed.there_exact edge).0 loses).1 | inr leaves ↦ leaves.0 ])

    new : (edge : Edge) → Contains come edge → Contains kept edge → ⊥
    new edge at old =
        let fresh = ((members-edges_left dead edges.fresh edge).0 (subst (λ (l : List Edge). Contains l edge) edges.comes at)).0 in
        ((edges.added.absent_exact edge).0 fresh).1 ((edges_lie records edge).0 old)

    apart : All (λ edge. ¬ Contains gone edge) come
    apart k d lt at = new (get_or come k d) (Contains-get_or come k d lt) (there (get_or come k d) at)

    pub plan-prepared : IsPlan dead objects_come gone come by_child keys room
    plan-prepared = record {
      dead_ascend = are.ascend;
      given_ascend = differ.ascend given_ascends;
      given_live = λ k d lt. All-contains (λ (o : Oid × Value). ¬ Contains dead o.0) given (get_or objects_come k d) given_lives
          (differ.exact (get_or objects_come k d) (Contains-get_or objects_come k d lt)).0;
      gone_ascend = edges.goes.ascend;
      come_ascend = subst AreAscendingEdges (sym edges.comes) (AllPairs-filter (λ a b. edge_cmp a b ≡ Less) (λ (e : Edge). not (is_among dead e.parent)) edges.fresh edges.added.absent_ascend);
      apart = apart;
      places = edges.places;
      no_keys = edges.no_keys;
      key_room = edges.key_room;
    }

    module _ (plan : PlannedGraph) (names_ascend : IsNameTable plan.names) (dead_is : plan.dead ≡ dead) (given_is : plan.delta.objects_come ≡ objects_come)
        (gone_is : plan.delta.edges_gone ≡ gone) (come_is : plan.delta.edges_come ≡ come) where
      pub prepared : ((entry : List ℕ × Oid) → Contains plan.names entry ↔ NamesThen names changes entry) → plan.next ≡ next + length changes.made
          → IsGraphAfter (record { names = names; objects = map object_of objects; edges = edges_of records; next = next }) changes
          (graph_then (record { names = names; objects = map object_of objects; edges = edges_of records; next = next }) plan)
      prepared names_are next_is =
          let after = edges-after kept edges.lost edges.fresh plan.delta.edges_gone plan.delta.edges_come dead (edges_ascend records) changes.added changes.removed
          (found-lost records changes.removed edges.lost edges.lost_absent edges.removed) (found-fresh records changes.added edges.fresh_there edges.fresh edges.added)
          (subst (λ (g : List Edge). (edge : Edge) → Contains g edge ↔ (Contains edges.lost edge ⊎ (Contains kept edge × Contains dead edge.parent))) (sym gone_is) (going records edges.lost gone dead edges.goes))
          (come_is ∙ edges.comes) in
          graph-after before changes formed fits dead are (layered kept edges.lost edges.fresh) linked given lists
          plan dead_is (ap (with_objects (not_dead dead (map object_of objects))) given_is
          ∙ sym (same-objects (map object_of objects) dead given objects_come formed.ordered.objects_ascend given_ascends given_lives differ))
          names_ascend names_are after.1 after.0 next_is

      pub delta-is : AreOnlyIn names plan.names plan.delta.names_gone → AreOnlyIn plan.names names plan.delta.names_come
          → AreGoneObjects (map object_of objects) dead objects_come plan.delta.objects_gone
          → IsDelta (record { names = names; objects = map object_of objects; edges = edges_of records; next = next })
          (graph_then (record { names = names; objects = map object_of objects; edges = edges_of records; next = next }) plan) plan.delta
      delta-is lost_names new_names goes = record {
        names_gone = lost_names.exact;
        names_come = new_names.exact;
        objects_gone = subst (ListsOnlyIn plan.delta.objects_gone (map object_of objects)) (sym objects_are)
            (objects-gone (map object_of objects) dead given objects_come formed.ordered.objects_ascend given_ascends given_lives differ plan.delta.objects_gone goes);
        objects_come = subst (λ (l : List (Oid × Value)). ListsOnlyIn plan.delta.objects_come l (map object_of objects)) (sym objects_are)
            (subst (λ (l : List (Oid × Value)). ListsOnlyIn l (with_objects (not_dead dead (map object_of objects)) objects_come) (map object_of objects)) (sym given_is)
            (objects-come (map object_of objects) dead given objects_come formed.ordered.objects_ascend given_ascends given_lives differ plan.delta.objects_gone goes));
        edges_gone = subst (λ (l : List Edge). ListsOnlyIn plan.delta.edges_gone kept l) (sym edges_are)
            (subst (λ (g : List Edge). ListsOnlyIn g kept (put_edges (staying gone kept) come)) (sym gone_is) (edges-gone kept gone come there apart));
        edges_come = subst (λ (l : List Edge). ListsOnlyIn plan.delta.edges_come l kept) (sym edges_are)
            (subst (λ (c : List Edge). ListsOnlyIn c (put_edges (staying gone kept) come) kept) (sym come_is) (edges-come kept gone come new));
        names_ascend = (lost_names.table, new_names.table);
        objects_ascend = (goes.ascend, subst AreAscendingObjects (sym given_is) (differ.ascend given_ascends));
        edges_ascend = (subst AreAscendingEdges (sym gone_is) edges.goes.ascend, subst AreAscendingEdges (sym come_is) plan-prepared.come_ascend);
      }
        where
          objects_are : with_objects (not_dead plan.dead (map object_of objects)) plan.delta.objects_come ≡ with_objects (not_dead dead (map object_of objects)) objects_come
          objects_are = λ i. with_objects (not_dead (dead_is i) (map object_of objects)) (given_is i)

          edges_are : put_edges (staying plan.delta.edges_gone kept) plan.delta.edges_come ≡ put_edges (staying gone kept) come
          edges_are = λ i. put_edges (staying (gone_is i) kept) (come_is i)

-- ---- readers of what a plan leads to
pub read-then : (objects seen : List ObjectRecord) (records : Slab EdgeRecord) (dead dead_seen : List Oid) (given given_seen : List (Oid × Value)) (gone gone_seen come come_seen : List Edge)
    (by_child keys : List ℕ) (room : ℕ) → IsPlan dead given gone come by_child keys room → AreLists objects records
    → AreAscendingObjects (with_objects (not_dead dead (map object_of objects)) given) → AreAscendingEdges (put_edges (staying gone (edges_of records)) come)
    → seen ≡ objects → dead_seen ≡ dead → given_seen ≡ given → gone_seen ≡ gone → come_seen ≡ come → IsRead seen records dead_seen given_seen gone_seen come_seen
read-then objects seen records dead dead_seen given given_seen gone gone_seen come come_seen by_child keys room planned lists objects_ascend edges_ascend o_is d_is v_is g_is c_is =
    subst (λ (o : List ObjectRecord). IsRead o records dead_seen given_seen gone_seen come_seen) (sym o_is)
    (subst (λ (d : List Oid). IsRead objects records d given_seen gone_seen come_seen) (sym d_is)
    (subst (λ (v : List (Oid × Value)). IsRead objects records dead v gone_seen come_seen) (sym v_is)
    (subst (λ (g : List Edge). IsRead objects records dead given g come_seen) (sym g_is)
    (subst (λ (c : List Edge). IsRead objects records dead given gone c) (sym c_is) (record {
      lists = lists;
      dead_ascend = planned.dead_ascend;
      given_ascend = planned.given_ascend;
      given_live = planned.given_live;
      gone_ascend = planned.gone_ascend;
      come_ascend = planned.come_ascend;
      objects_ascend = objects_ascend;
      edges_ascend = edges_ascend;
    })))))
