-- Hints of a select hold of each row that comes of a plan of it and of which its condition holds.
use Rattle.std.proofs.Common.{◌≢◌, ◌↔◌, ◌⊎◌, inl, inr, ℕ, ◌-◌, List, [], length, replicate, Some, All, AllPairs, sym, subst}
use Rattle.std.proofs.lemmas.Slice.Zip.{AllZip-long}
use Rattle.lore_base.specs.Walks.{oid_of}
use Rattle.lore_base.specs.Paths.{PathTree, Reaches}
use Rattle.lorel_bound.specs.Bound.{RangeTree, BoundPathTree, BoundTree}
use Rattle.lorel_bound.specs.Conditions.{CondOf, paths_of, paths_in}
use Rattle.lorel_bound.specs.Plans.{StepTree, AreStepsOf}
use Rattle.lorel_bound.specs.Runnable.{IsBoundWithin, IsRunnable}
use Rattle.lorel_bound.specs.SlotRows.{StartsAt, HoldsOver}
use Rattle.plan_ops.specs.Types.{PlanKind}
use Rattle.plan_laws.specs.Steps.{steps_over, Agrees, Finishes, in_eight}
use Rattle.plan_ops.specs.Rows.{WalksOrTests}
use Rattle.plan_ops.proofs.DescribeLawsToCome.{finished_sought}
use Rattle.select_hints.specs.Hints.{AreHints}
use Rattle.select_rows.specs.Types.{Oid, Edge, Value, ValueEntry, RANGES}
use Rattle.select_rows.specs.Views.{view_over}
use Rattle.select_rows.proofs.SlotLaws.{holds_in_front}

module _ (labels : List (List ℕ)) (edges : List Edge) (objects : List (Oid × Value)) (links : List Edge) (entries : List ValueEntry)
    (reaches : PathTree → Oid → Oid → Type 0) (bound : BoundTree) (hints : CondOf BoundPathTree) (Passes Hinted : List Oid → Type 0)
    (passed : (slots : List Oid) → Passes slots ↔ HoldsOver labels edges objects slots bound.cond)
    (told : (slots : List Oid) → Hinted slots ↔ HoldsOver labels edges objects slots (Some hints)) where
  -- what agrees with the condition agrees with its test
  tested : (steps : List StepTree) → All WalksOrTests steps ⊎ Agrees (view_over labels edges objects links entries reaches bound) objects bound
      → All WalksOrTests steps ⊎ Agrees (steps_over labels edges links entries reaches Passes) objects bound
  tested steps (inl walks) = inl walks
  tested steps (inr agrees) = inr (record {
    links = agrees.links;
    entries = agrees.entries;
    reached = agrees.reached;
    passed = λ row eight. passed row;
  })

  pub hints_follow : (steps : List StepTree) (kind : PlanKind) → AllPairs (λ a b. a ≢ b) labels → IsRunnable bound → AreStepsOf labels bound kind steps
      → AreHints bound hints
      → All WalksOrTests steps ⊎ Agrees (view_over labels edges objects links entries reaches bound) objects bound
      → (row : List Oid) → Finishes (steps_over labels edges links entries reaches Passes) steps (in_eight []) row → Passes row → Hinted row
  hints_follow steps kind apart runnable planned are fits row finishes passes =
      let sought = finished_sought (steps_over labels edges links entries reaches Passes) steps objects bound kind apart runnable planned (tested steps fits) row finishes in
      let slots = sought.slots in
      let behind = replicate (RANGES - length slots) (oid_of 0) in
      let long = AllZip-long (λ (range : RangeTree) (oid : Oid). (start : Oid) × StartsAt slots range.start start × Reaches labels edges range.path start oid)
      bound.ranges slots sought.filled in
      let own = holds_in_front labels edges objects slots behind bound.cond
      (subst (λ (n : ℕ). All (λ (path : BoundPathTree). IsBoundWithin n path.start) (paths_in bound.cond)) (sym long) runnable.condition_within) in
      let more = holds_in_front labels edges objects slots behind (Some hints)
      (subst (λ (n : ℕ). All (λ (path : BoundPathTree). IsBoundWithin n path.start) (paths_of hints)) (sym long) are.within) in
      let holds = own.0 (subst (λ (r : List Oid). HoldsOver labels edges objects r bound.cond) sought.is ((passed row).0 passes)) in
      (told row).1 (subst (λ (r : List Oid). HoldsOver labels edges objects r (Some hints)) (sym sought.is)
      (more.1 (are.told labels edges objects slots sought.filled holds)))
