-- There is a plan of each select that is accepted.
use Rattle.std.proofs.Common.{ℕ, inl, inr, List, length, Option, Some, None, refl}
use Rattle.lore_base.specs.Databases.{Database, IsValid}
use Rattle.guide_laws.proofs.TargetSetLaws.{target_sets_exist}
use Rattle.index_laws.proofs.SortedEntries.{entries_exist}
use Rattle.lorel_trees.specs.Trees.{SelectTree}
use Rattle.lorel_bind.specs.Refusals.{IsAccepted}
use Rattle.lorel_bound.specs.Bound.{BoundTree}
use Rattle.lorel_bound.specs.Plans.{path_to}
use Rattle.bind_laws.proofs.BindingLaws.{has_some_binding}
use Rattle.bind_laws.proofs.ReachedLaws.{listed_reached}
use Rattle.lore_base.specs.Paths.{Reaches}
use Rattle.planner.specs.Choices.{AreCounts, kind_by}
use Rattle.statements.specs.Types.{ValueEntry}
use Rattle.lore_db.specs.Types.{Reply, PlanShown}
use Rattle.statements.specs.Plans.{ShowsPlan}
use Rattle.reply_laws.proofs.BottomLaws.{told_bottom, some_label, some_count, listed_candidates}

-- what is counted can be counted
some_counts : (db : Database) → IsValid db → (entries : List ValueEntry) (bound : BoundTree)
    → (candidates : Option ℕ) × (found : Option ℕ)
    × AreCounts db.labels entries (Reaches db.labels db.graph.edges) bound candidates found
some_counts db valid entries bound = elim (told_bottom bound) [
  | inr cannot ↦ (None, None, inr (cannot, refl, refl))
  | inl begins ↦ (
      let probe = begins.1 in
      let label = some_label db.labels probe.label in
      let candidates = some_count _ (listed_candidates entries label.0 probe.op probe.value) in
      let found = some_count _ (listed_reached db.labels db.graph.edges (path_to bound probe) begins.0) in (
        Some candidates.0,
        Some found.0,
        inl (record {
          named = begins.0;
          probe = probe;
          can = begins.2;
          label = label.0;
          labelled = label.1;
          asked = (candidates.0, refl, candidates.1);
          reached = (found.0, refl, found.1);
        }),
      ))
]

pub some_plan : (db : Database) → IsValid db → (query : SelectTree) → IsAccepted db.graph.names query
    → (reply : Reply) × ShowsPlan db query reply
some_plan db valid query accepted =
    let bound = has_some_binding db.graph.names query accepted in
    let entries = entries_exist db.graph.objects db.graph.edges valid.restorable.rooted.well_formed.ordered.objects_ascend in
    let counts = some_counts db valid entries.0 bound.0 in
    let sets = target_sets_exist db.graph.names db.graph.edges in (
      PlanShown (kind_by db.mode counts.0 counts.1 (length sets.0) (length db.graph.objects)) counts.0 counts.1,
      record {
        bound = bound.0;
        kind = kind_by db.mode counts.0 counts.1 (length sets.0) (length db.graph.objects);
        candidates = counts.0;
        found = counts.1;
        plan = record {
          binding = bound.1;
          counts = record { apart = valid.restorable.labels_distinct; entries = entries.0; are_entries = entries.1; counted = counts.2 };
          kind_is = record { sets = sets.0; are_sets = sets.1; is = refl };
        };
        is = refl;
      },
    )
