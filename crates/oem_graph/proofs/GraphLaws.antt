-- The new graph is in order, and has few edges.
use Rattle.std.proofs.Common.{◌≡◌, ℕ, ◌<◌, Option, None, List, [], length, get_or, map, All, sym, ap, subst, arith}
use Rattle.std.proofs.lemmas.List.{length-map}
use Rattle.slab.specs.Slab.{Slab, slab_len}
use Rattle.edge_lists.specs.Objects.{object_of}
use Rattle.edge_lists.specs.Views.{edges_of}
use Rattle.std.specs.List.Sorted.{IsStrictlySortedBy}
use Rattle.lore_base.specs.Databases.{OemGraph, IsWellFormed, new_graph}
use Rattle.oem_graph.specs.Graphs.{IsIndexable, HasEnds}
use Rattle.oem_graph.specs.Types.{Oid, Complex, EdgeRecord, ObjectRecord}
use Rattle.edge_layers.specs.Lists.{AreLists}
use Rattle.oem_graph.specs.inside.Linked.{IsLinkedGraph}
use Rattle.graph_changes.proofs.ObjectLaws.{length-objects}
use Rattle.edge_layers.proofs.ViewLaws.{count-edges, empty-lists}

pub indexable-new : IsIndexable new_graph
unfolding IsStrictlySortedBy
indexable-new = record {
  ordered = record {
    names_ascend = tt;
    objects_ascend = λ i j d lt len. absurd (omega arith);
    objects_numbered = λ k d lt. absurd (omega arith);
    edges_ascend = λ i j d lt len. absurd (omega arith);
    next_numbered = (omega arith, omega arith);
  };
  linked = λ k d lt. absurd (omega arith);
  few_edges = omega arith;
}

-- the ends of a well-formed graph's edges are live
pub linked_ends : (graph : OemGraph) → IsWellFormed graph → All (HasEnds graph.objects) graph.edges
linked_ends graph formed k d lt = record {
  parent = (Complex, (formed.edges_linked k d lt).parent);
  child = (formed.edges_linked k d lt).child;
}

-- ---- a graph as it is kept
-- a graph without anything
pub graph-new : (names : List (List ℕ × Oid)) (objects : List ObjectRecord) (records : Slab EdgeRecord) → names ≡ [] → objects ≡ [] → records.slots ≡ []
    → ◌≡◌ {A = OemGraph} (record { names = names; objects = map object_of objects; edges = edges_of records; next = 1 }) new_graph
graph-new names objects records no_names no_objects no_slots = λ i. record {
  names = no_names i;
  objects = map object_of (no_objects i);
  edges = edges_of (record { slots = no_slots i; vacant_key = records.vacant_key; capacity = records.capacity });
  next = 1;
}

pub linked-new : (names : List (List ℕ × Oid)) (objects : List ObjectRecord) (records : Slab EdgeRecord) → names ≡ [] → objects ≡ [] → records.slots ≡ []
    → IsLinkedGraph names objects records 1
linked-new names objects records no_names no_objects no_slots = record {
  lists = subst (λ (o : List ObjectRecord). AreLists o records) (sym no_objects)
      (empty-lists records (λ key. ap (λ (s : List (Option EdgeRecord)). get_or s key None) no_slots));
  indexable = subst IsIndexable (sym (graph-new names objects records no_names no_objects no_slots)) indexable-new;
}

-- room for more records changes nothing else
pub linked-room : (names : List (List ℕ × Oid)) (objects moved : List ObjectRecord) (old new : Slab EdgeRecord) (next : ℕ) → moved ≡ objects → new ≡ record old { capacity = new.capacity }
    → IsLinkedGraph names objects old next → IsLinkedGraph names moved new next
linked-room names objects moved old new next same is linked =
    subst (λ (o : List ObjectRecord). IsLinkedGraph names o new next) (sym same)
    (subst (λ (s : Slab EdgeRecord). IsLinkedGraph names objects s next) (sym is) (record {
      lists = record { ascend = linked.lists.ascend; out = linked.lists.out; entering = linked.lists.entering };
      indexable = linked.indexable;
    }))

-- there are fewer objects and fewer edges than 32 bits tell
pub few-objects : (names : List (List ℕ × Oid)) (objects : List ObjectRecord) (records : Slab EdgeRecord) (next : ℕ) → IsLinkedGraph names objects records next → length objects < 4_294_967_296
few-objects names objects records next linked =
    let ordered = linked.indexable.ordered in
    let fewer = length-objects _ _ ordered.objects_ascend ordered.objects_numbered ordered.next_numbered.0 in
    omega (arith, fewer, ordered.next_numbered.1, length-map objects object_of)

pub few-records : (names : List (List ℕ × Oid)) (objects : List ObjectRecord) (records : Slab EdgeRecord) (next : ℕ) → IsLinkedGraph names objects records next → slab_len records < 4_294_967_296
few-records names objects records next linked = omega (arith, count-edges objects records linked.lists, linked.indexable.few_edges)

pub linked-moved : (names : List (List ℕ × Oid)) (objects moved : List ObjectRecord) (records : Slab EdgeRecord) (next : ℕ) → moved ≡ objects → IsLinkedGraph names objects records next
    → IsLinkedGraph names moved records next
linked-moved names objects moved records next same linked = subst (λ (o : List ObjectRecord). IsLinkedGraph names o records next) (sym same) linked
