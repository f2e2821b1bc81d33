-- A tree that keeps the rules of dump texts is the dump of a restorable database, and the dump of such a database keeps
-- them.
use Rattle.std.proofs.Common.{◌≡◌, ◌≢◌, ◌↔◌, inl, ℕ, ◌<◌, ◌≤◌, pos, Bool, List, [], ◌∷◌, length, map, Option, Some, slice_get, slice_index_or, All, AllPairs, Contains, refl, sym, ap, ◌∙◌, subst, arith}
use Rattle.std.specs.Bool.{IsTrue}
use Rattle.std.specs.Option.{unwrap_or}
use Rattle.std.proofs.lemmas.List.{length-map}
use Rattle.std.proofs.lemmas.List.Elements.{All-head, All-tail, All-map, All-weaker}
use Rattle.std.proofs.lemmas.Option.{slice_get-get_or, slice_get_within, get_or_from_slice_get}
use Rattle.lore_base.specs.Names.{IsNameTable}
use Rattle.lore_base.specs.Databases.{Database, AreAscendingObjects, AreAscendingEdges, IsLive, IsComplex, IsLinked, IsReached}
use Rattle.lore_base.specs.Walks.{edge_of}
use Rattle.lore_base.proofs.MemberLaws.{Contains-same}
use Rattle.index_traits.proofs.ObjectLaws.{one_value_of}
use Rattle.oem_labels.proofs.PlaceLaws.{place_in-at, label_in-at}
use Rattle.oem_labels.specs.Labels.{place_in, label_in}
use Rattle.dump_text.specs.Types.{Oid, Label, Edge, Value, Complex, DumpTree, Restored}
use Rattle.dump_text.specs.Dumps.{table_text, spelled_edge, dump_tree, IsVersion, in_version_two}
use Rattle.dump_text.specs.Rules.{AreNumbered, numbered_edge, numbered_edges, KeepsRules}
use Rattle.dump_text.specs.Restores.{IsDumpOf, IsBad, IsRestored}
use Rattle.lore_base.specs.Restores.{database_from}
use Rattle.lore_base.specs.Databases.{IsRestorable}
use Rattle.dump_text.specs.inside.RuleParts.{IsHead, KeepsHead, KeepsLists, KeepsOrder, KeepsEdges, IsGraph, AreChanges}

-- ---- labels that stand once, and their texts
module _ (labels : List (List ℕ)) (distinct : AllPairs (λ a b. a ≢ b) labels) where
  text_placed : (text : List ℕ) → Contains labels text → slice_get labels (place_in labels text) ≡ Some text
  text_placed text at =
      let there : slice_get labels at.0 ≡ Some text = slice_get-get_or labels at.0 text at.1 ∙ ap (λ (t : List ℕ). Some t) at.2 in
      ap (λ (n : ℕ). slice_get labels n) (place_in-at labels at.0 text distinct there) ∙ there

  label_read : (label : Label) → label.0 < length labels → slice_get labels label.0 ≡ Some (table_text labels label)
  label_read label low =
      let read = slice_get-get_or labels label.0 [] low in
      read ∙ ap (λ (t : List ℕ). Some t) (sym (ap (λ (o : Option (List ℕ)). unwrap_or o []) read))

  text_of-label : (text : List ℕ) → Contains labels text → table_text labels (label_in labels text) ≡ text
  text_of-label text at = ap (λ (o : Option (List ℕ)). unwrap_or o []) (text_placed text at)

  label_in-text : (label : Label) → label.0 < length labels → label_in labels (table_text labels label) ≡ label
  label_in-text label low = sym (label_in-at labels label (table_text labels label) distinct (label_read label low))

  has_text_of : (label : Label) → label.0 < length labels → Contains labels (table_text labels label)
  has_text_of label low =
      let read = label_read label low in
      (label.0, low, get_or_from_slice_get labels label.0 (table_text labels label) (table_text labels label) read)

  -- edges get the numbers of their texts, and back
  spelled-numbered : (entries : List (Oid × List ℕ × Oid)) → All (λ entry. Contains labels entry.1) entries
      → map (spelled_edge labels) (map (numbered_edge labels) entries) ≡ entries
  spelled-numbered [] labelled = refl
  spelled-numbered (entry ∷ entries) labelled =
      let first : spelled_edge labels (numbered_edge labels entry) ≡ entry =
      ap (λ (t : List ℕ). (entry.0, t, entry.2)) (text_of-label entry.1 (All-head (λ (e : Oid × List ℕ × Oid). Contains labels e.1) entry entries labelled)) in
      let others = spelled-numbered entries (All-tail (λ (e : Oid × List ℕ × Oid). Contains labels e.1) entry entries labelled) in
      ap (λ (e : Oid × List ℕ × Oid). e ∷ map (spelled_edge labels) (map (numbered_edge labels) entries)) first
      ∙ ap (λ (l : List (Oid × List ℕ × Oid)). entry ∷ l) others

  numbered-spelled : (edges : List Edge) → All (λ edge. edge.label.0 < length labels) edges
      → map (numbered_edge labels) (map (spelled_edge labels) edges) ≡ edges
  numbered-spelled [] labelled = refl
  numbered-spelled (edge ∷ edges) labelled =
      let first : numbered_edge labels (spelled_edge labels edge) ≡ edge =
      ap (λ (l : Label). edge_of edge.parent l edge.child) (label_in-text edge.label (All-head (λ (e : Edge). e.label.0 < length labels) edge edges labelled)) in
      let others = numbered-spelled edges (All-tail (λ (e : Edge). e.label.0 < length labels) edge edges labelled) in
      ap (λ (e : Edge). e ∷ map (numbered_edge labels) (map (spelled_edge labels) edges)) first ∙ ap (λ (l : List Edge). edge ∷ l) others

  labelled-spelled : (edges : List Edge) → All (λ edge. edge.label.0 < length labels) edges
      → All (λ entry. Contains labels entry.1) (map (spelled_edge labels) edges)
  labelled-spelled edges labelled =
      All-map (λ (entry : Oid × List ℕ × Oid). Contains labels entry.1) (spelled_edge labels) edges
      (All-weaker (λ (e : Edge). e.label.0 < length labels) (λ (e : Edge). Contains labels (table_text labels e.label)) (λ e low. has_text_of e.label low) edges labelled)

  labelled-numbered : (entries : List (Oid × List ℕ × Oid)) → All (λ entry. Contains labels entry.1) entries
      → All (λ edge. edge.label.0 < length labels) (map (numbered_edge labels) entries)
  labelled-numbered entries labelled =
      All-map (λ (edge : Edge). edge.label.0 < length labels) (numbered_edge labels) entries
      (All-weaker (λ (e : Oid × List ℕ × Oid). Contains labels e.1) (λ (e : Oid × List ℕ × Oid). place_in labels e.1 < length labels)
      (λ e at. slice_get_within labels (place_in labels e.1) e.1 (text_placed e.1 at)) entries labelled)

-- ---- the dump of a restorable database
pub same_number : (m n : ℕ) → pos m ≡ pos n → m ≡ n
same_number m n same = cc

restorable_keeps : (db : Database) → IsRestorable db → KeepsRules (dump_tree db)
restorable_keeps db is =
    let graph = db.graph in
    let formed = is.rooted.well_formed in
    let ordered = formed.ordered in
    let same : numbered_edges (dump_tree db) ≡ graph.edges = numbered-spelled db.labels is.labels_distinct graph.edges is.labelled in
    record {
      version = inl refl;
      next = (graph.next, refl, ordered.next_numbered.0, ordered.next_numbered.1);
      nodes = (db.nodes, refl, is.nodes_limited.0, is.nodes_limited.1);
      few = record {
        labels = is.few_labels;
        names = is.few_names;
        objects = is.few_objects;
        edges = omega (arith, is.few_edges, length-map graph.edges (spelled_edge db.labels));
      };
      formed = record { labels = is.labels_formed; names = formed.names_formed; values = formed.objects_sized };
      labels = is.labels_distinct;
      names = ordered.names_ascend;
      objects = record {
        ascend = ordered.objects_ascend;
        numbered = λ k d low next same_next.
            let both = ordered.objects_numbered k d low in
            (both.0, subst (λ (n : ℕ). (slice_index_or graph.objects k d).0.0 < n) (same_number graph.next next same_next) both.1);
      };
      labelled = labelled-spelled db.labels is.labels_distinct graph.edges is.labelled;
      edges = subst AreAscendingEdges (sym same) ordered.edges_ascend;
      linked = subst (All (IsLinked graph.objects)) (sym same) formed.edges_linked;
      named = formed.names_live;
      reached = subst (λ (edges : List Edge). All (λ object. IsReached graph.names edges object.0) graph.objects) (sym same) is.rooted.reached;
    }

-- the rules in version 2 are those in each version that is read
kept_in_version : (tree : DumpTree) → IsVersion tree → KeepsRules (in_version_two tree) → KeepsRules tree
kept_in_version tree version keeps = record {
  version = version;
  next = keeps.next;
  nodes = keeps.nodes;
  few = record { labels = keeps.few.labels; names = keeps.few.names; objects = keeps.few.objects; edges = keeps.few.edges };
  formed = record { labels = keeps.formed.labels; names = keeps.formed.names; values = keeps.formed.values };
  labels = keeps.labels;
  names = keeps.names;
  objects = record { ascend = keeps.objects.ascend; numbered = keeps.objects.numbered };
  labelled = keeps.labelled;
  edges = keeps.edges;
  linked = keeps.linked;
  named = keeps.named;
  reached = keeps.reached;
}

dumped_keeps : (tree : DumpTree) (db : Database) → IsDumpOf tree db → IsRestorable db → KeepsRules tree
dumped_keeps tree db dumped is = kept_in_version tree dumped.version (subst KeepsRules dumped.parts (restorable_keeps db is))

-- ---- the rules in the parts in which they are tested
pub head_kept : (tree : DumpTree) (next nodes : ℕ) → IsHead tree next nodes → KeepsHead tree
head_kept tree next nodes head = record {
  version = head.version;
  next = (next, head.next_is, head.next_ranged.0, head.next_ranged.1);
  nodes = (nodes, head.nodes_is, head.nodes_ranged.0, head.nodes_ranged.1);
}

pub numbered_below : (tree : DumpTree) (next : ℕ) → tree.next ≡ pos next → AreAscendingObjects tree.objects
    → All (λ object. (1 ≤ object.0.0) × (object.0.0 < next)) tree.objects → AreNumbered tree
numbered_below tree next is ascend ranged = record {
  ascend = ascend;
  numbered = λ k d low other same.
      let both = ranged k d low in
      (both.0, subst (λ (n : ℕ). (slice_index_or tree.objects k d).0.0 < n) (same_number next other (sym is ∙ same)) both.1);
}

pub below_numbered : (tree : DumpTree) (next : ℕ) → tree.next ≡ pos next → AreNumbered tree
    → All (λ object. (1 ≤ object.0.0) × (object.0.0 < next)) tree.objects
below_numbered tree next is numbered k d low = numbered.numbered k d low next is

-- a value that is found is complex exactly where the object is
pub complex_told : (objects : List (Oid × Value)) → AreAscendingObjects objects → (oid : Oid) (value : Value) (answer : Bool)
    → Contains objects (oid, value) → IsTrue answer ↔ (value ≡ Complex) → IsTrue answer ↔ IsComplex objects oid
complex_told objects ascend oid value answer at tells = (
  λ yes. Contains-same objects (oid, value) (oid, Complex) (ap (λ (v : Value). (oid, v)) (tells.0 yes)) at,
  λ complex. tells.1 (one_value_of objects ascend oid value Complex at complex),
)

-- ---- the tests of names and objects, and of the graph, over the tree's lists
module _ (tree : DumpTree) (next : ℕ) (is : tree.next ≡ pos next) (names : List (List ℕ × Oid)) (objects : List (Oid × Value))
    (same_names : names ≡ tree.names) (same_objects : objects ≡ tree.objects) where
  pub order_told : IsNameTable names → AreAscendingObjects objects × All (λ object. (1 ≤ object.0.0) × (object.0.0 < next)) objects
      → (answer : Bool) → IsTrue answer ↔ All (λ entry. IsLive objects entry.1) names → IsTrue answer ↔ KeepsOrder tree
  order_told table both answer tells = (
    λ yes. record {
      names = subst IsNameTable same_names table;
      objects = numbered_below tree next is (subst AreAscendingObjects same_objects both.0)
          (subst (All (λ (object : Oid × Value). (1 ≤ object.0.0) × (object.0.0 < next))) same_objects both.1);
      named = subst (All (λ (entry : List ℕ × Oid). IsLive tree.objects entry.1)) same_names
          (subst (λ (l : List (Oid × Value)). All (λ (entry : List ℕ × Oid). IsLive l entry.1) names) same_objects (tells.0 yes));
    },
    λ order. tells.1 (subst (λ (l : List (Oid × Value)). All (λ (entry : List ℕ × Oid). IsLive l entry.1) names) (sym same_objects)
        (subst (All (λ (entry : List ℕ × Oid). IsLive tree.objects entry.1)) (sym same_names) order.named)),
  )

  pub order_broken : (AreAscendingObjects objects × All (λ object. (1 ≤ object.0.0) × (object.0.0 < next)) objects → ⊥)
      → KeepsOrder tree → ⊥
  order_broken breaks order = breaks (
    subst AreAscendingObjects (sym same_objects) order.objects.ascend,
    subst (All (λ (object : Oid × Value). (1 ≤ object.0.0) × (object.0.0 < next))) (sym same_objects) (below_numbered tree next is order.objects),
  )

module _ (tree : DumpTree) (names : List (List ℕ × Oid)) (objects : List (Oid × Value)) (edges : List Edge)
    (same_names : names ≡ tree.names) (same_objects : objects ≡ tree.objects) (same_edges : edges ≡ numbered_edges tree) where
  linked_here : All (IsLinked objects) edges → All (IsLinked tree.objects) (numbered_edges tree)
  linked_here linked = subst (All (IsLinked tree.objects)) same_edges (subst (λ (l : List (Oid × Value)). All (IsLinked l) edges) same_objects linked)

  pub linked_there : All (IsLinked tree.objects) (numbered_edges tree) → All (IsLinked objects) edges
  linked_there linked = subst (λ (l : List (Oid × Value)). All (IsLinked l) edges) (sym same_objects) (subst (All (IsLinked tree.objects)) (sym same_edges) linked)

  pub graph_told : AreAscendingEdges edges → All (IsLinked objects) edges → (answer : Bool)
      → IsTrue answer ↔ All (λ object. IsReached names edges object.0) objects → IsTrue answer ↔ IsGraph tree
  graph_told ascend linked answer tells = (
    λ yes. record {
      edges = subst AreAscendingEdges same_edges ascend;
      linked = linked_here linked;
      reached = subst (λ (l : List (List ℕ × Oid)). All (λ object. IsReached l (numbered_edges tree) object.0) tree.objects) same_names
          (subst (λ (l : List Edge). All (λ object. IsReached names l object.0) tree.objects) same_edges
          (subst (All (λ (object : Oid × Value). IsReached names edges object.0)) same_objects (tells.0 yes)));
    },
    λ graph. tells.1 (subst (All (λ (object : Oid × Value). IsReached names edges object.0)) (sym same_objects)
        (subst (λ (l : List Edge). All (λ object. IsReached names l object.0) tree.objects) (sym same_edges)
        (subst (λ (l : List (List ℕ × Oid)). All (λ object. IsReached l (numbered_edges tree) object.0) tree.objects) (sym same_names) graph.reached))),
  )

-- ---- the table of labels, and the edges that have them
module _ (tree : DumpTree) (texts labels : List (List ℕ)) (entries : List (Oid × List ℕ × Oid)) (same_texts : texts ≡ tree.labels)
    (same_labels : labels ≡ texts) (same_entries : entries ≡ tree.edges) where
  pub edges_unlabelled : (All (λ entry. Contains labels entry.1) entries → ⊥) → KeepsEdges tree → ⊥
  edges_unlabelled breaks keeps =
      breaks (subst (λ (l : List (List ℕ)). All (λ (entry : Oid × List ℕ × Oid). Contains l entry.1) entries) (sym (same_labels ∙ same_texts))
      (subst (All (λ (entry : Oid × List ℕ × Oid). Contains tree.labels entry.1)) (sym same_entries) keeps.labelled))

  pub edges_kept : AllPairs (λ a b. a ≢ b) texts → All (λ entry. Contains labels entry.1) entries → IsGraph tree → KeepsEdges tree
  edges_kept distinct labelled graph = record {
    labels = subst (AllPairs (λ a b. a ≢ b)) same_texts distinct;
    labelled = subst (All (λ (entry : Oid × List ℕ × Oid). Contains tree.labels entry.1)) same_entries
        (subst (λ (l : List (List ℕ)). All (λ (entry : Oid × List ℕ × Oid). Contains l entry.1) entries) (same_labels ∙ same_texts) labelled);
    graph = graph;
  }

module _ (tree : DumpTree) where
  pub keeps_head : KeepsRules tree → KeepsHead tree
  keeps_head keeps = record { version = keeps.version; next = keeps.next; nodes = keeps.nodes }

  pub keeps_lists : KeepsRules tree → KeepsLists tree
  keeps_lists keeps = record {
    few = keeps.few;
    formed = keeps.formed;
    order = record { names = keeps.names; objects = keeps.objects; named = keeps.named };
  }

  pub keeps_edges : KeepsRules tree → KeepsEdges tree
  keeps_edges keeps = record {
    labels = keeps.labels;
    labelled = keeps.labelled;
    graph = record { edges = keeps.edges; linked = keeps.linked; reached = keeps.reached };
  }

  pub keeps_all : KeepsHead tree → KeepsLists tree → KeepsEdges tree → KeepsRules tree
  keeps_all head lists edges = record {
    version = head.version;
    next = head.next;
    nodes = head.nodes;
    few = lists.few;
    formed = lists.formed;
    labels = edges.labels;
    names = lists.order.names;
    objects = lists.order.objects;
    labelled = edges.labelled;
    edges = edges.graph.edges;
    linked = edges.graph.linked;
    named = lists.order.named;
    reached = edges.graph.reached;
  }

-- ---- the database of a tree that keeps the rules
abbrev pub database_of : DumpTree → (next nodes : ℕ) → Database
database_of tree next nodes = record {
  labels = tree.labels;
  graph = record { names = tree.names; objects = tree.objects; edges = numbered_edges tree; next = next };
  nodes = nodes;
  mode = tree.mode;
}

module _ (tree : DumpTree) (next nodes : ℕ) (head : IsHead tree next nodes) (keeps : KeepsRules tree) where
  keeps_dumped : IsDumpOf tree (database_of tree next nodes)
  keeps_dumped =
      let edges = spelled-numbered tree.labels keeps.labels tree.edges keeps.labelled in
      record {
        version = head.version;
        parts = λ i. record {
          version = pos 2;
          next = sym head.next_is i;
          nodes = sym head.nodes_is i;
          mode = tree.mode;
          labels = tree.labels;
          names = tree.names;
          objects = tree.objects;
          edges = edges i;
        };
      }

  keeps_restorable : IsRestorable (database_of tree next nodes)
  keeps_restorable = record {
    labels_distinct = keeps.labels;
    labels_formed = keeps.formed.labels;
    rooted = record {
      well_formed = record {
        ordered = record {
          names_ascend = keeps.names;
          objects_ascend = keeps.objects.ascend;
          objects_numbered = λ k d low. keeps.objects.numbered k d low next head.next_is;
          edges_ascend = keeps.edges;
          next_numbered = head.next_ranged;
        };
        names_formed = keeps.formed.names;
        names_live = keeps.named;
        objects_sized = keeps.formed.values;
        edges_linked = keeps.linked;
      };
      reached = keeps.reached;
    };
    labelled = labelled-numbered tree.labels keeps.labels tree.edges keeps.labelled;
    few_labels = keeps.few.labels;
    few_names = keeps.few.names;
    few_objects = keeps.few.objects;
    few_edges = omega (arith, keeps.few.edges, length-map tree.edges (numbered_edge tree.labels));
    nodes_limited = head.nodes_ranged;
  }

-- what is restored is that database
pub keeps_restored : (tree : DumpTree) (restored : Restored) → IsHead tree restored.next restored.nodes → restored.mode ≡ tree.mode
    → AreChanges tree (numbered_edges tree) restored.changes → KeepsRules tree → IsRestored tree restored
keeps_restored tree restored head mode changes keeps =
    let same : database_from restored ≡ database_of tree restored.next restored.nodes = λ i. record {
      labels = changes.labels i;
      graph = record { names = changes.named i; objects = changes.made i; edges = changes.added i; next = restored.next };
      nodes = restored.nodes;
      mode = mode i;
    } in
    record {
      dumped = subst (IsDumpOf tree) (sym same) (keeps_dumped tree restored.next restored.nodes head keeps);
      whole = record {
        sound = subst IsRestorable (sym same) (keeps_restorable tree restored.next restored.nodes head keeps);
        no_values = changes.no_values;
        no_removed = changes.no_removed;
        no_unnamed = changes.no_unnamed;
      };
    }

-- a tree that breaks a rule is no dump
pub broken_bad : (tree : DumpTree) → (KeepsRules tree → ⊥) → IsBad tree
broken_bad tree breaks db dumped restorable = breaks (dumped_keeps tree db dumped restorable)

-- ---- the laws of dump texts
pub rules_tell : (tree : DumpTree) → KeepsRules tree ↔ ((db : Database) × IsDumpOf tree db × IsRestorable db)
rules_tell tree = (
  λ keeps.
      let next = keeps.next in
      let nodes = keeps.nodes in
      let head : IsHead tree next.0 nodes.0 = record {
        version = keeps.version;
        next_is = next.1;
        next_ranged = (next.2, next.3);
        nodes_is = nodes.1;
        nodes_ranged = (nodes.2, nodes.3);
      } in
      (database_of tree next.0 nodes.0, keeps_dumped tree next.0 nodes.0 head keeps, keeps_restorable tree next.0 nodes.0 head keeps),
  λ dumped. dumped_keeps tree dumped.0 dumped.1 dumped.2,
)

-- the edges of a database are those of its dump with the numbers of their labels
edges_dumped : (tree : DumpTree) (db : Database) → IsDumpOf tree db → IsRestorable db → db.graph.edges ≡ numbered_edges tree
edges_dumped tree db dumped is =
    sym (numbered-spelled db.labels is.labels_distinct db.graph.edges is.labelled) ∙ ap (λ (t : DumpTree). numbered_edges t) dumped.parts

pub one_database : (tree : DumpTree) (a b : Database) → IsDumpOf tree a → IsDumpOf tree b → IsRestorable a → IsRestorable b → a ≡ b
one_database tree a b of_a of_b is_a is_b =
    let same : dump_tree a ≡ dump_tree b = of_a.parts ∙ sym of_b.parts in
    let labels : a.labels ≡ b.labels = ap (λ (t : DumpTree). t.labels) same in
    let names : a.graph.names ≡ b.graph.names = ap (λ (t : DumpTree). t.names) same in
    let objects : a.graph.objects ≡ b.graph.objects = ap (λ (t : DumpTree). t.objects) same in
    let edges : a.graph.edges ≡ b.graph.edges = edges_dumped tree a of_a is_a ∙ sym (edges_dumped tree b of_b is_b) in
    let next : a.graph.next ≡ b.graph.next = same_number a.graph.next b.graph.next (ap (λ (t : DumpTree). t.next) same) in
    let nodes : a.nodes ≡ b.nodes = same_number a.nodes b.nodes (ap (λ (t : DumpTree). t.nodes) same) in
    let mode : a.mode ≡ b.mode = ap (λ (t : DumpTree). t.mode) same in
    λ i. record {
      labels = labels i;
      graph = record { names = names i; objects = objects i; edges = edges i; next = next i };
      nodes = nodes i;
      mode = mode i;
    }
