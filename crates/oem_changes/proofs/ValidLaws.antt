-- Changes that fit a valid database, and keep to its limits, leave a valid one.
use Rattle.std.proofs.Common.{◌≡◌, ◌≢◌, ℕ, ◌+◌, ◌<◌, ◌≤◌, inl, inr, List, ◌++◌, length, subst, sym, ap, ◌∙◌}
use Rattle.std.proofs.Common.{arith, length-append}
use Rattle.std.specs.List.{All, AllPairs, Contains}
use Rattle.std.proofs.lemmas.List.Elements.{All-append, All-contains, All-get_or, Contains-get_or}
use Rattle.oem_changes.specs.Types.{Edge, Changes, NAMES, OBJECTS, EDGES}
use Rattle.lore_base.specs.Names.{IsLabel}
use Rattle.lore_base.specs.Databases.{Database, IsValid, IsRestorable, IsRooted}
use Rattle.lore_base.specs.GuideLimits.{FitsGuide}
use Rattle.lore_base.specs.ChangeSets.{Fits, IsAfter}
use Rattle.lore_base.proofs.ListLaws.{AllPairs-append}
use Rattle.list_laws.proofs.MemberLaws.{All-from_members}
use Rattle.oem_changes.proofs.RootedLaws.{rooted_after}

-- the graph of a valid database is rooted
pub rooted_graph : (db : Database) → IsValid db → IsRooted db.graph
rooted_graph db valid = valid.restorable.rooted

-- distinct labels and distinct new ones are all distinct
labels_apart : (labels more : List (List ℕ)) → AllPairs (λ a b. a ≢ b) labels → AllPairs (λ a b. a ≢ b) more
    → All (λ text. ¬ Contains labels text) more → AllPairs (λ a b. a ≢ b) (labels ++ more)
labels_apart labels more first second new =
    AllPairs-append (λ (a b : List ℕ). a ≢ b) labels more first second
    (λ i j d within_first within_second same.
    All-get_or (λ (text : List ℕ). ¬ Contains labels text) more j d within_second new
    (subst (Contains labels) same (Contains-get_or labels i d within_first)))

module _ (before : Database) (changes : Changes) (after : Database) (valid : IsValid before)
    (fits : Fits before changes) (leaves : IsAfter before changes after) where
  labelled_after : All (λ edge. edge.label.0 < length after.labels) after.graph.edges
  labelled_after =
      let longer : length after.labels ≡ length before.labels + length changes.labels = ap length leaves.labels
      ∙ length-append before.labels changes.labels in
      All-from_members (λ edge. edge.label.0 < length after.labels) after.graph.edges
      (λ edge at. elim ((leaves.graph.linked.exact edge).0 ((leaves.graph.edges edge).0 at).0) [
        | inl added ↦ subst (λ (labels : List (List ℕ)). edge.label.0 < length labels) (sym leaves.labels)
            (All-contains (λ (e : Edge). e.label.0 < length
            (before.labels ++ changes.labels)) changes.added edge fits.added_labelled added)
        | inr kept ↦ (
            let low = All-contains
            (λ (e : Edge). e.label.0 < length before.labels) before.graph.edges edge valid.restorable.labelled kept.0 in
            omega (arith, low, longer))
      ])

  pub restorable_after : length after.graph.names ≤ NAMES → length after.graph.objects ≤ OBJECTS
      → length after.graph.edges ≤ EDGES → IsRestorable after
  restorable_after few_names few_objects few_edges =
      let kept = valid.restorable in
      let longer : length after.labels ≡ length before.labels + length changes.labels = ap length leaves.labels
      ∙ length-append before.labels changes.labels in
      record {
        labels_distinct = subst (AllPairs (λ a b. a ≢ b)) (sym leaves.labels)
            (labels_apart before.labels changes.labels kept.labels_distinct fits.labels_distinct fits.labels_new);
        labels_formed = subst (All IsLabel) (sym leaves.labels)
            (All-append IsLabel before.labels changes.labels kept.labels_formed fits.labels_formed);
        rooted = rooted_after before.graph changes kept.rooted.well_formed fits.graph after.graph leaves.graph;
        labelled = labelled_after;
        few_labels = omega (arith, longer, fits.few_labels);
        few_names = few_names;
        few_objects = few_objects;
        few_edges = few_edges;
        nodes_limited = (
          omega (arith, leaves.nodes, kept.nodes_limited.0),
          omega
              (arith, leaves.nodes, kept.nodes_limited.1),
        );
      }

  pub valid_after : length after.graph.names ≤ NAMES → length after.graph.objects ≤ OBJECTS
      → length after.graph.edges ≤ EDGES → FitsGuide after.nodes after.graph.names after.graph.edges → IsValid after
  valid_after few_names few_objects few_edges fits_guide =
      record { restorable = restorable_after few_names few_objects few_edges; fits = fits_guide }
