-- What a store holds once a prepared change is put in place.
use Rattle.std.proofs.Common.{◌≡◌, ℕ, Option, Some, None, List, ◌++◌, refl, sym, subst}
use Rattle.lore_base.specs.Databases.{OemGraph}
use Rattle.lore_store.specs.Types.{Mode}
use Rattle.oem_graph.specs.Plans.{graph_then}
use Rattle.dataguide.specs.Guides.{GuideGraph}
use Rattle.dataguide.specs.Deltas.{PlannedGuide}
use Rattle.lore_store.specs.declared.indexes.Indexes.{Indexes}
use Rattle.lore_store.specs.Indexes.{AreIndexes}
use Rattle.lore_store.specs.Stores.{RoomyDatabase, PlannedDatabase, IsPreparedFor, IsStored, database_of, guide_then}

-- what leads a store on as it is seen leads on what is inside
pub leads_inside : (inside seen : RoomyDatabase) (plan given : PlannedDatabase) → inside ≡ seen → plan ≡ given
    → IsPreparedFor seen.db seen.guide given → IsPreparedFor inside.db inside.guide plan
leads_inside inside seen plan given same is leads =
    subst (λ (s : RoomyDatabase). IsPreparedFor s.db s.guide plan) (sym same)
    (subst (λ (p : PlannedDatabase). IsPreparedFor seen.db seen.guide p) (sym is) leads)

-- where no other guide is planned, the kept one stays
pub kept_guide : (kept : GuideGraph) (planned : Option PlannedGuide) → ((other : PlannedGuide) → planned ≡ Some other → ⊥) → guide_then kept planned ≡ kept
kept_guide kept None none = refl
kept_guide kept (Some other) none = absurd (none other refl)

-- with the labels, the graph, the indexes and the guide that a plan leads to, a store is whole
module _ (labels : List (List ℕ)) (graph : OemGraph) (limit : ℕ) (mode : Mode) (guide : GuideGraph) (plan : PlannedDatabase)
    (leads : IsPreparedFor (database_of labels graph limit mode) guide plan) where
  pub stored_then : (labels_then : List (List ℕ)) (graph_is : OemGraph) (kept : Indexes) (guide_is : GuideGraph)
      → labels_then ≡ labels ++ plan.labels.come → graph_is ≡ graph_then graph plan.graph → guide_then guide plan.guide ≡ guide_is
      → AreIndexes (graph_then graph plan.graph) kept → IsStored (database_of labels_then graph_is limit mode) kept guide_is
  stored_then labels_then graph_is kept guide_is labels_are graph_same guide_same indexes =
      subst (λ (l : List (List ℕ)). IsStored (database_of l graph_is limit mode) kept guide_is) (sym labels_are)
      (subst (λ (g : OemGraph). IsStored (database_of (labels ++ plan.labels.come) g limit mode) kept guide_is) (sym graph_same)
      (subst (λ (o : GuideGraph). IsStored (database_of (labels ++ plan.labels.come) (graph_then graph plan.graph) limit mode) kept o) guide_same
      (record { valid = leads.valid; indexes = indexes; guided = leads.guided })))
