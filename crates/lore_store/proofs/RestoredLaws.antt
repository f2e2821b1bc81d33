-- Restored databases: what a graph has in place of the new one, and that the store of one is whole.
use Rattle.std.proofs.Common.{◌≡◌, ◌↔◌, ℕ, ◌+◌, ◌<◌, ◌^◌, List, [], length, Contains, refl, sym, ap, subst, ◌∙◌, arith}
use Rattle.lore_base.specs.declared.edges.Oid.{Oid}
use Rattle.lore_base.specs.declared.edges.Edge.{Edge}
use Rattle.lore_base.specs.Deltas.{IsOnlyIn}
use Rattle.lore_base.specs.GuideLimits.{FitsGuide}
use Rattle.lore_base.specs.Databases.{OemGraph, Database, IsRooted, AreAscendingEdges, new_graph, new_database}
use Rattle.lore_base.proofs.MemberLaws.{Contains-none}
use Rattle.oem_changes.proofs.ValidLaws.{rooted_graph}
use Rattle.oem_labels.specs.Labels.{AreLabels, first_uses}
use Rattle.oem_labels.proofs.TextSetLaws.{first_uses-apart}
use Rattle.oem_graph.specs.Graphs.{IsIndexable}
use Rattle.oem_graph.proofs.GraphLaws.{linked_ends}
use Rattle.lore_base.specs.Databases.{IsRestorable}
use Rattle.index_traits.specs.declared.entries.ValueEntry.{ValueEntry}
use Rattle.index_traits.specs.Entries.{AreLinks}
use Rattle.value_changes.specs.EntryChanges.{AreEntryChanges}
use Rattle.value_changes.specs.Reads.{AreRead}
use Rattle.dataguide.specs.Types.{GuideFault}
use Rattle.dataguide.specs.Types.faults as guides
use Rattle.dataguide.specs.Guides.{GuideGraph, StandsFor, sets_of}
use Rattle.dataguide.specs.GuideCauses.{GuideCause}
use Rattle.lore_base.specs.PathOrder.{AreInPathOrder}
use Rattle.lore_store.specs.Faults.{guide_restore_fault, RestoreCause}
use Rattle.lore_store.specs.declared.indexes.Indexes.{Indexes}
use Rattle.lore_store.specs.Indexes.{AreIndexes, state_of}
use Rattle.lore_store.specs.Stores.{IsStored, IsGuided, database_of}
use Rattle.lore_store.proofs.NewLaws.{new_valid}
use Rattle.lore_store.proofs.IndexLaws.{KeepValues, IsFound, found_changes}

-- the new graph is rooted, and no object of it loses a value
pub new_rooted : IsRooted new_graph
new_rooted = rooted_graph new_database new_valid

pub new_keeps : (after : OemGraph) → KeepValues new_graph after []
new_keeps after oid value there live = absurd (Contains-none (oid, value) there)

none_ascend : AreAscendingEdges []
none_ascend = λ i j d low within. absurd (omega (arith, within))

-- of the new graph no edge is lost, and all edges are fresh
module _ (graph : OemGraph) (rooted : IsRooted graph) (lost fresh : List Edge) (none : lost ≡ []) (all : fresh ≡ graph.edges) where
  pub lost_ascend : AreAscendingEdges lost
  lost_ascend = rw none none_ascend

  pub none_lost : (edge : Edge) → Contains lost edge ↔ IsOnlyIn [] graph.edges edge
  none_lost = rw none (λ edge. (λ at. absurd (Contains-none edge at), λ only. absurd (Contains-none edge only.0)))

  pub fresh_ascend : AreAscendingEdges fresh
  fresh_ascend = rw all rooted.well_formed.ordered.edges_ascend

  pub all_fresh : (edge : Edge) → Contains fresh edge ↔ IsOnlyIn graph.edges [] edge
  all_fresh = rw all (λ edge. (λ at. (at, Contains-none edge), λ only. only.0))

-- over links of no edge none is read
none_read : (links : List Edge) → AreLinks [] links → AreRead links [] [] []
none_read links stands = record {
  added_exact = λ edge. (λ at. absurd (Contains-none edge at), λ only. absurd (Contains-none edge ((stands.exact edge).0 only.0)));
  others_lost = λ edge only. absurd (Contains-none edge only.0);
}

-- and its value entries come, as they are found so
module _ (graph : OemGraph) (rooted : IsRooted graph) (links fresh : List Edge) (stands : AreLinks [] links) (all : fresh ≡ graph.edges) where
  pub first_entries : (gone come : List ValueEntry) → IsFound new_graph graph links [] [] fresh [] gone come
      → AreEntryChanges (state_of new_graph) (state_of graph) gone come
  first_entries gone come found =
      found_changes new_graph graph links [] [] fresh [] new_rooted rooted (none_lost graph rooted [] fresh refl all)
      (all_fresh graph rooted [] fresh refl all) (new_keeps graph)
      (none_read links stands) gone come found

-- distinct texts all come to a table of none
module _ (table texts : List (List ℕ)) (none : table ≡ []) (labels : AreLabels texts) where
  pub all_come : first_uses table texts ≡ texts
  all_come = subst (λ (t : List (List ℕ)). first_uses t texts ≡ texts) (sym none) (first_uses-apart [] texts labels.distinct)

  pub all_fit : length table + length (first_uses table texts) < 2 ^ 32
  all_fit =
      let come = ap length all_come in
      let nothing = ap length none in
      omega (arith, come, nothing, labels.few)

-- what the guide is said to be of the parts of a graph that is kept is so of the graph
module _ (names : List (List ℕ × Oid)) (kept graph : OemGraph) (named : names ≡ kept.names) (is : kept ≡ graph) where
  names_are : names ≡ graph.names
  names_are = named ∙ ap (λ (g : OemGraph). g.names) is

  edges_are : kept.edges ≡ graph.edges
  edges_are = ap (λ (g : OemGraph). g.edges) is

  pub built_guide : (guide : GuideGraph) → StandsFor guide names kept.edges → AreInPathOrder names kept.edges (sets_of guide.nodes)
      → IsGuided graph guide
  built_guide guide stands order = record {
    stands = rw (names_are, edges_are) at stands;
    order = rw (names_are, edges_are) at order;
  }

  pub built_fits : (limit : ℕ) → FitsGuide limit names kept.edges → FitsGuide limit graph.names graph.edges
  built_fits limit fits = rw (names_are, edges_are) at fits

  pub built_cause : (limit : ℕ) (error : GuideFault) → GuideCause limit names kept.edges error
      → GuideCause limit graph.names graph.edges error
  built_cause limit error cause = rw (names_are, edges_are) at cause

-- the cause of a fault of the guide is that of the restored database
pub restore_cause : (db : Database) (error : GuideFault) → GuideCause db.nodes db.graph.names db.graph.edges error
    → RestoreCause db (guide_restore_fault error)
restore_cause db guides.Nodes cause = cause
restore_cause db guides.Cells cause = cause
restore_cause db guides.NoMemory cause = tt

module _ (db : Database) (sound : IsRestorable db) where
  pub restored_indexable : IsIndexable db.graph
  restored_indexable = record {
    ordered = sound.rooted.well_formed.ordered;
    linked = linked_ends db.graph sound.rooted.well_formed;
    few_edges = omega (arith, sound.few_edges);
  }

  pub restored_labels : AreLabels db.labels
  restored_labels = record { distinct = sound.labels_distinct; few = omega (arith, sound.few_labels) }

  -- where the guide fits the database is valid, and what is kept of it whole
  pub restored_stored : (graph : OemGraph) (kept : Indexes) (guide : GuideGraph) → graph ≡ db.graph → AreIndexes graph kept
      → IsGuided db.graph guide → FitsGuide db.nodes db.graph.names db.graph.edges → IsStored db kept guide
  restored_stored graph kept guide is indexes guided fits = record {
    valid = record { restorable = sound; fits = fits };
    indexes = subst (λ (g : OemGraph). AreIndexes g kept) is indexes;
    guided = guided;
  }

-- a database of labels and a graph that are those of another is that one
module _ (db : Database) (labels : List (List ℕ)) (graph : OemGraph) (labels_are : labels ≡ db.labels) (is : graph ≡ db.graph) where
  pub same_database : database_of labels graph db.nodes db.mode ≡ db
  same_database =
      subst (λ (l : List (List ℕ)). database_of l graph db.nodes db.mode ≡ db) (sym labels_are)
      (subst (λ (g : OemGraph). database_of db.labels g db.nodes db.mode ≡ db) (sym is) refl)

-- and a store of it is one of that one
pub stored_as : (db : Database) (labels : List (List ℕ)) (graph : OemGraph) (kept : Indexes) (guide : GuideGraph) → labels ≡ db.labels
    → graph ≡ db.graph → IsStored db kept guide → IsStored (database_of labels graph db.nodes db.mode) kept guide
stored_as db labels graph kept guide labels_are is stored =
    subst (λ (d : Database). IsStored d kept guide) (sym (same_database db labels graph labels_are is)) stored
