-- What a graph becomes where a plan is put in place.
use Rattle.std.proofs.Common.{◌≡◌, ◌⊎◌, ℕ, ◌+◌, ◌-◌, ◌<◌, ◌≤◌, Bool, true, false, not, Option, Some, None, List, [], length, get_or, map, All, Contains, refl, sym, ap, ◌∙◌, inl, inr, subst, arith}
use Rattle.std.specs.List.{filter}
use Rattle.std.proofs.lemmas.Bool.{true≢false}
use Rattle.std.proofs.lemmas.List.{length-map}
use Rattle.std.proofs.lemmas.List.Elements.{Contains-get_or, All-contains}
use Rattle.std.proofs.lemmas.List.Kept.{AllPairs-filter}
use Rattle.slab.specs.Slab.{Slab, slab_len}
use Rattle.near_links.proofs.LinkLaws.{leads_on}
use Rattle.near_links.specs.Links.{IsNearest}
use Rattle.lore_base.specs.Databases as base
use Rattle.lore_base.specs.Databases.{OemGraph}
use Rattle.oem_graph.specs.Types.{Side, Out, In, EdgeRecord, ObjectRecord}
use Rattle.edge_lists.specs.Edges.{owner_of, Precedes}
use Rattle.edge_lists.specs.Records.{HasEdge}
use Rattle.edge_lists.specs.Objects.{object_of, first_of, head_of, IsLive}
use Rattle.edge_lists.specs.Chains.{StandsAt, AreChained}
use Rattle.edge_lists.specs.Commits.{AreChanged}
use Rattle.edge_lists.specs.Views.{edges_of}
use Rattle.edge_lists.proofs.ObjectLaws.{head-at}
use Rattle.edge_lists.proofs.LivingLaws.{heads_left, heads_chain}
use Rattle.edge_lists.proofs.ViewLaws.{edges_lie, edges_ascend}
use Rattle.oem_graph.specs.Types.{Oid, Edge, Value}
use Rattle.oem_graph.specs.Graphs.{RoomyGraph, IsIndexable, HasEnds}
use Rattle.oem_graph.specs.Plans.{PlannedGraph, graph_then}
use Rattle.graph_changes.specs.Puts.{with_objects, put_edges}
use Rattle.graph_changes.specs.Given.{ArePutIn}
use Rattle.edge_layers.specs.Layers.{staying}
use Rattle.graph_changes.specs.Left.{is_among, not_dead}
use Rattle.edge_layers.specs.Lists.{AreLists}
use Rattle.oem_graph.specs.inside.Linked.{IsLinkedGraph}
use Rattle.oem_graph.specs.inside.Planned.{IsPlan}
use Rattle.graph_changes.proofs.PairLaws.{pairs-ascend, live-record, dropped-pairs}
use Rattle.graph_changes.proofs.GivenLaws.{drop-with_objects, members-with_objects}
use Rattle.edge_layers.proofs.LayerLaws.{same-edges, members-staying}
use Rattle.graph_changes.proofs.LeftLaws.{members-not_dead, ascend-not_dead, among-back}
use Rattle.graph_changes.proofs.PutLaws.{members-put_edges, put-back_all}

-- ---- what a plan brings to a graph that it leads from
module _ (names : List (List ℕ × Oid)) (o0 : List ObjectRecord) (r0 : Slab EdgeRecord) (next : ℕ) (plan : PlannedGraph)
    (lists : AreLists o0 r0) (by_child keys : List ℕ) (room : ℕ) (planned : IsPlan plan.dead plan.delta.objects_come plan.delta.edges_gone plan.delta.edges_come by_child keys room)
    (leads : IsIndexable (graph_then (record { names = names; objects = map object_of o0; edges = edges_of r0; next = next }) plan)) where
  abbrev kept : List Edge
  kept = edges_of r0

  abbrev objects-then : List (Oid × Value)
  objects-then = with_objects (not_dead plan.dead (map object_of o0)) plan.delta.objects_come

  abbrev edges-then : List Edge
  edges-then = put_edges (staying plan.delta.edges_gone kept) plan.delta.edges_come

  pub come-new : All (λ edge. ¬ HasEdge r0 edge) plan.delta.edges_come
  come-new k d lt has =
      let at = Contains-get_or plan.delta.edges_come k d lt in
      (put-back_all (staying plan.delta.edges_gone kept) plan.delta.edges_come leads.ordered.edges_ascend).1 (get_or plan.delta.edges_come k d) at
      ((members-staying plan.delta.edges_gone kept (get_or plan.delta.edges_come k d)).1 ((edges_lie r0 (get_or plan.delta.edges_come k d)).1 has, planned.apart k d lt))

  ends : (edge : Edge) → Contains edges-then edge → HasEnds objects-then edge
  ends edge at = All-contains (HasEnds objects-then) edges-then edge leads.linked at

  -- what is live then isn't dead, and is there once values are given
  then-cases : (oid : Oid) → base.IsLive objects-then oid → (Contains plan.dead oid → ⊥) × base.IsLive (with_objects (map object_of o0) plan.delta.objects_come) oid
  then-cases oid live =
      let ascend = pairs-ascend o0 lists.ascend in
      let given = planned.given_ascend in
      elim ((members-with_objects (not_dead plan.dead (map object_of o0)) plan.delta.objects_come (ascend-not_dead plan.dead (map object_of o0) ascend) given (oid, live.0)).0 live.1) [
        | inl new ↦ (
          All-contains (λ (o : Oid × Value). ¬ Contains plan.dead o.0) plan.delta.objects_come (oid, live.0) planned.given_live new,
          (live.0, (members-with_objects (map object_of o0) plan.delta.objects_come ascend given (oid, live.0)).1 (inl new)),
        )
        | inr old ↦ (let both = (members-not_dead plan.dead (map object_of o0) (oid, live.0)).0 old.0 in (
          both.1,
          (live.0, (members-with_objects (map object_of o0) plan.delta.objects_come ascend given (oid, live.0)).1 (inr (both.0, old.1))),
        ))
      ]

  module _ (o1 : List ObjectRecord) (put : ArePutIn plan.delta.objects_come o0 o1) where
    live-now : (oid : Oid) → base.IsLive objects-then oid → IsLive o1 oid
    live-now oid live = live-record o1 oid (subst (λ (l : List (Oid × Value)). base.IsLive l oid) (sym put.objects) (then-cases oid live).1)

    pub come-parents : All (λ edge. IsLive o1 edge.parent) plan.delta.edges_come
    come-parents k d lt = live-now (get_or plan.delta.edges_come k d).parent (ends (get_or plan.delta.edges_come k d) ((members-put_edges (staying plan.delta.edges_gone kept) plan.delta.edges_come (get_or plan.delta.edges_come k d)).1 (inr (Contains-get_or plan.delta.edges_come k d lt)))).parent

    pub come-children : All (λ edge. IsLive o1 edge.child) plan.delta.edges_come
    come-children k d lt = live-now (get_or plan.delta.edges_come k d).child (ends (get_or plan.delta.edges_come k d) ((members-put_edges (staying plan.delta.edges_gone kept) plan.delta.edges_come (get_or plan.delta.edges_come k d)).1 (inr (Contains-get_or plan.delta.edges_come k d lt)))).child

    pub put-out : AreChained Out o1 r0 []
    put-out = heads_chain Out o0 o1 r0 [] (put.heads Out) lists.out

    pub put-entering : AreChained In o1 r0 []
    put-entering = heads_chain In o0 o1 r0 [] (put.heads In) lists.entering

    module _ (o2 : List ObjectRecord) (r1 : Slab EdgeRecord) (changed : AreChanged plan.delta.edges_come plan.delta.edges_gone o1 r0 o2 r1) where
      pub edges-are : edges_of r1 ≡ edges-then
      edges-are = same-edges (edges_of r1) edges-then (edges_ascend r1) leads.ordered.edges_ascend (λ edge. (
        λ at.
            let both = (changed.edges edge).0 ((edges_lie r1 edge).0 at) in
            (members-put_edges (staying plan.delta.edges_gone kept) plan.delta.edges_come edge).1 (elim both.0 [
              | inl old ↦ inl ((members-staying plan.delta.edges_gone kept edge).1 ((edges_lie r0 edge).1 old, both.1))
              | inr new ↦ inr new
            ]),
        λ at. (edges_lie r1 edge).1 ((changed.edges edge).1 (elim ((members-put_edges (staying plan.delta.edges_gone kept) plan.delta.edges_come edge).0 at) [
          | inl stays ↦ (let both = (members-staying plan.delta.edges_gone kept edge).0 stays in (inl ((edges_lie r0 edge).0 both.0), both.1))
          | inr new ↦ (inr new, All-contains (λ (e : Edge). ¬ Contains plan.delta.edges_gone e) plan.delta.edges_come edge planned.apart new)
        ])),
      ))

      abbrev stays : ObjectRecord → Bool
      stays object = not (is_among plan.dead object.oid)

      abbrev o3 : List ObjectRecord
      o3 = filter stays o2

      pub objects-are : map object_of o3 ≡ objects-then
      objects-are =
          dropped-pairs plan.dead o2 ∙ ap (not_dead plan.dead) (changed.objects ∙ put.objects)
          ∙ drop-with_objects plan.dead (map object_of o0) plan.delta.objects_come (pairs-ascend o0 lists.ascend) planned.given_live

      -- a dead object has no edge then
      chain-of : (side : Side) → AreChained side o2 r1 []
      chain-of Out = changed.out
      chain-of In = changed.entering

      owner-live : (side : Side) (edge : Edge) → HasEnds objects-then edge → base.IsLive objects-then (owner_of side edge)
      owner-live Out edge both = both.parent
      owner-live In edge both = both.child

      dead-alone : (side : Side) → All (λ o. stays o ≡ false → first_of side o ≡ None) o2
      dead-alone side k d lt goes = by_head (leads_on (head_of side o2 (get_or o2 k d).oid))
        where
          dies : Contains plan.dead (get_or o2 k d).oid
          dies = among-back plan.dead (get_or o2 k d).oid (not_false (is_among plan.dead (get_or o2 k d).oid) goes)
            where
              not_false : (b : Bool) → not b ≡ false → b ≡ true
              not_false true h = refl
              not_false false h = absurd (true≢false h)

          by_head : ((head_of side o2 (get_or o2 k d).oid ≡ None) ⊎ ((key : ℕ) × (head_of side o2 (get_or o2 k d).oid ≡ Some key))) → first_of side (get_or o2 k d) ≡ None
          by_head (inl none) = sym (head-at side o2 changed.ascend k d lt) ∙ none
          by_head (inr some) =
              let near = subst (λ (l : Option ℕ). IsNearest (StandsAt r1 []) (λ y. owner_of side y ≡ (get_or o2 k d).oid) (Precedes side) l) some.1 ((chain-of side).heads (get_or o2 k d).oid) in
              let has : HasEdge r1 near.0 = (some.0, near.1.0) in
              let there = subst (λ (l : List Edge). Contains l near.0) edges-are ((edges_lie r1 near.0).1 has) in
              let live = subst (λ (o : Oid). base.IsLive objects-then o) near.2 (owner-live side near.0 (ends near.0 there)) in
              absurd ((then-cases (get_or o2 k d).oid live).0 dies)

      pub lists-are : AreLists o3 r1
      lists-are = record {
        ascend = AllPairs-filter (λ (a b : ObjectRecord). a.oid.0 < b.oid.0) stays o2 changed.ascend;
        out = heads_chain Out o2 o3 r1 [] (heads_left Out o2 changed.ascend stays (dead-alone Out)) changed.out;
        entering = heads_chain In o2 o3 r1 [] (heads_left In o2 changed.ascend stays (dead-alone In)) changed.entering;
      }

      graph-is : ◌≡◌ {A = OemGraph} (record { names = plan.names; objects = map object_of o3; edges = edges_of r1; next = plan.next })
          (graph_then (record { names = names; objects = map object_of o0; edges = edges_of r0; next = next }) plan)
      graph-is = λ i. record { names = plan.names; objects = objects-are i; edges = edges-are i; next = plan.next }

      pub graph-then : (last : List ObjectRecord) → last ≡ o3 → ◌≡◌ {A = OemGraph} (record { names = plan.names; objects = map object_of last; edges = edges_of r1; next = plan.next })
          (graph_then (record { names = names; objects = map object_of o0; edges = edges_of r0; next = next }) plan)
      graph-then last is = ap (λ (l : List ObjectRecord). record { names = plan.names; objects = map object_of l; edges = edges_of r1; next = plan.next }) is ∙ graph-is

      pub linked-then : (last : List ObjectRecord) → last ≡ o3 → IsLinkedGraph plan.names last r1 plan.next
      linked-then last is = subst (λ (l : List ObjectRecord). IsLinkedGraph plan.names l r1 plan.next) (sym is) (record {
        lists = lists-are;
        indexable = subst IsIndexable (sym graph-is) leads;
      })

-- what a plan leads to as it is seen, it leads to as it is kept
pub leads-inside : (inside seen : RoomyGraph) (plan given : PlannedGraph) → inside ≡ seen → plan ≡ given → IsIndexable (graph_then seen.graph given) → IsIndexable (graph_then inside.graph plan)
leads-inside inside seen plan given same is leads =
    subst (λ (s : RoomyGraph). IsIndexable (graph_then s.graph plan)) (sym same) (subst (λ (p : PlannedGraph). IsIndexable (graph_then seen.graph p)) (sym is) leads)

-- there is as much room in the records as is told
pub room-inside : (inside seen : RoomyGraph) (plan given : PlannedGraph) (records : Slab EdgeRecord) → inside ≡ seen → plan ≡ given → inside.edge_room ≡ records.capacity - slab_len records
    → length given.delta.edges_come ≤ seen.edge_room → slab_len records ≤ records.capacity → slab_len records + length plan.delta.edges_come ≤ records.capacity
room-inside inside seen plan given records same is room fits within =
    omega (arith, ap (λ (s : RoomyGraph). s.edge_room) same, ap (λ (p : PlannedGraph). length p.delta.edges_come) is, room, fits, within)

-- ---- slices stand for the lists that they show
-- what a change of the records needs
pub record CanCommit (objects : List ObjectRecord) (records : Slab EdgeRecord) (come : List Edge) : Type 0 where
  pub parents : All (λ edge. IsLive objects edge.parent) come
  pub children : All (λ edge. IsLive objects edge.child) come
  pub new : All (λ edge. ¬ HasEdge records edge) come
  pub out : AreChained Out objects records []
  pub entering : AreChained In objects records []

pub can-commit : (names : List (List ℕ × Oid)) (o0 : List ObjectRecord) (r0 : Slab EdgeRecord) (next : ℕ) (plan : PlannedGraph) → AreLists o0 r0
    → (by_child keys : List ℕ) (room : ℕ) → IsPlan plan.dead plan.delta.objects_come plan.delta.edges_gone plan.delta.edges_come by_child keys room
    → IsIndexable (graph_then (record { names = names; objects = map object_of o0; edges = edges_of r0; next = next }) plan)
    → (o1 objects : List ObjectRecord) (come : List Edge) → ArePutIn plan.delta.objects_come o0 o1 → objects ≡ o1 → come ≡ plan.delta.edges_come → CanCommit objects r0 come
can-commit names o0 r0 next plan lists by_child keys room planned leads o1 objects come put same is =
    subst (λ (o : List ObjectRecord). CanCommit o r0 come) (sym same) (subst (λ (l : List Edge). CanCommit o1 r0 l) (sym is) (record {
      parents = come-parents names o0 r0 next plan lists by_child keys room planned leads o1 put;
      children = come-children names o0 r0 next plan lists by_child keys room planned leads o1 put;
      new = come-new names o0 r0 next plan lists by_child keys room planned leads;
      out = put-out names o0 r0 next plan lists by_child keys room planned leads o1 put;
      entering = put-entering names o0 r0 next plan lists by_child keys room planned leads o1 put;
    }))

pub same-length : (old new : List ObjectRecord) → map object_of new ≡ map object_of old → length new ≡ length old
same-length old new same = sym (length-map new object_of) ∙ ap length same ∙ length-map old object_of

pub dropped-is : (dead slice : List Oid) (objects old last : List ObjectRecord) → slice ≡ dead → old ≡ objects → last ≡ filter (λ (o : ObjectRecord). not (is_among slice o.oid)) old
    → last ≡ filter (λ (o : ObjectRecord). not (is_among dead o.oid)) objects
dropped-is dead slice objects old last same is dropped =
    dropped ∙ ap (λ (d : List Oid). filter (λ (o : ObjectRecord). not (is_among d o.oid)) old) same ∙ ap (filter (λ (o : ObjectRecord). not (is_among dead o.oid))) is
