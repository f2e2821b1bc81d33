-- A graph after changes that is too large, or whose guide is, is the cause of a refusal, and one that isn't is none.
use Rattle.std.proofs.Common.{◌<◌, ℕ, length, Option, Some, None, refl, subst, inl, inr}
use Rattle.lore_store.specs.Types.{Refusal, Changes, NAMES, OBJECTS, EDGES}
use Rattle.lore_store.specs.Types.refusals
use Rattle.lore_base.specs.GuideLimits.{FitsGuide, ExceedsNodes, ExceedsCells}
use Rattle.lore_base.specs.Databases.{OemGraph, Database}
use Rattle.lore_base.specs.ChangeSets.{IsGraphAfter}
use Rattle.lore_base.specs.ChangeCauses.{DatabaseCause}
use Rattle.lore_base.specs.Verdicts.{IsFirst, IsClear, IsToldBy}
use Rattle.dataguide.specs.Types.{GuideFault}
use Rattle.dataguide.specs.Types.faults as guides
use Rattle.dataguide.specs.GuideCauses.{GuideCause}
use Rattle.guide_laws.proofs.LimitLaws.{fitting_passes_none, one_limit_is_passed}
use Rattle.lore_store.specs.Faults.{refusal_of, guide_fault}
use Rattle.lore_store.specs.Stores.{store_order}
use Rattle.lore_store.specs.inside.Sizes.{SizeCause, SetsCause, sets_order}
use Rattle.oem_changes.proofs.DeterminedLaws.{one_after}

-- a fault of the guide is answered with the limit that its first set passes
pub told_sets : (limit : ℕ) (graph : OemGraph) (error : GuideFault) → GuideCause limit graph.names graph.edges error
    → IsToldBy (SetsCause limit graph) sets_order (refusal_of (guide_fault error))
told_sets limit graph guides.Nodes cause = inl (cause, refl)
told_sets limit graph guides.Cells cause =
    inr (λ many. one_limit_is_passed limit graph.names graph.edges many cause, inl (cause, refl))
told_sets limit graph guides.NoMemory cause = tt

module _ (db : Database) (changes : Changes) (after : OemGraph) (h : IsGraphAfter db.graph changes after) where
  -- the graph that is too large is this one
  few_names : DatabaseCause db changes refusals.TooManyNames → SizeCause after refusals.TooManyNames
  few_names many = subst (λ (g : OemGraph). NAMES < length g.names) (one_after db.graph changes many.0 after many.1 h) many.2

  few_objects : DatabaseCause db changes refusals.TooManyObjects → SizeCause after refusals.TooManyObjects
  few_objects many = subst (λ (g : OemGraph). OBJECTS < length g.objects) (one_after db.graph changes many.0 after many.1 h) many.2

  few_edges : DatabaseCause db changes refusals.TooManyEdges → SizeCause after refusals.TooManyEdges
  few_edges many = subst (λ (g : OemGraph). EDGES < length g.edges) (one_after db.graph changes many.0 after many.1 h) many.2

  few_sets : DatabaseCause db changes refusals.GuideNodes → ExceedsNodes db.nodes after.names after.edges
  few_sets many = subst (λ (g : OemGraph). ExceedsNodes db.nodes g.names g.edges) (one_after db.graph changes many.0 after many.1 h) many.2

  few_cells : DatabaseCause db changes refusals.GuideCells → ExceedsCells db.nodes after.names after.edges
  few_cells many = subst (λ (g : OemGraph). ExceedsCells db.nodes g.names g.edges) (one_after db.graph changes many.0 after many.1 h) many.2

  -- where nothing is too large, nothing is refused
  pub sized_clear : IsClear (SizeCause after) store_order → FitsGuide db.nodes after.names after.edges → IsClear (DatabaseCause db changes) store_order
  sized_clear (names, (objects, (edges, end))) fits =
      let none = fitting_passes_none db.nodes after.names after.edges fits in (
        λ many. names (few_names many),
        (
          λ many. objects (few_objects many),
          (
            λ many. edges (few_edges many),
            (λ many. none (inl (few_sets many)), (λ many. none (inr (few_cells many)), tt)),
          ),
        ),
      )

  sized_first : (refusal : Refusal) → IsFirst (SizeCause after) store_order refusal → IsFirst (DatabaseCause db changes) store_order refusal
  sized_first refusal (inl (many, is)) = inl ((after, h, many), is)
  sized_first refusal (inr (names, inl (many, is))) = inr (λ some. names (few_names some), inl ((after, h, many), is))
  sized_first refusal (inr (names, inr (objects, inl (many, is)))) =
      inr (λ some. names (few_names some), inr (λ some. objects (few_objects some), inl ((after, h, many), is)))
  sized_first refusal (inr (names, inr (objects, inr (edges, inl (none, is))))) = absurd none
  sized_first refusal (inr (names, inr (objects, inr (edges, inr (none, inl (small, is)))))) = absurd small
  sized_first refusal (inr (names, inr (objects, inr (edges, inr (none, inr (small, end)))))) = absurd end

  -- where the graph is too large, its first cause refuses the changes
  pub sized_told : (told : Option Refusal) → IsToldBy (SizeCause after) store_order told → IsToldBy (DatabaseCause db changes) store_order told
  sized_told None first = tt
  sized_told (Some refusal) first = sized_first refusal first

  -- what is first among the causes of the guide is first where the graph isn't too large
  sized_on : IsClear (SizeCause after) store_order → (refusal : Refusal) → IsFirst (DatabaseCause db changes) sets_order refusal
      → IsFirst (DatabaseCause db changes) store_order refusal
  sized_on (names, (objects, (edges, end))) refusal first =
      inr (λ some. names (few_names some), inr (λ some. objects (few_objects some), inr (λ some. edges (few_edges some), first)))

  guided_first : (refusal : Refusal) → IsFirst (SetsCause db.nodes after) sets_order refusal → IsFirst (DatabaseCause db changes) sets_order refusal
  guided_first refusal (inl (many, is)) = inl ((after, h, many), is)
  guided_first refusal (inr (few, inl (many, is))) = inr (λ some. few (few_sets some), inl ((after, h, many), is))
  guided_first refusal (inr (few, inr (small, end))) = absurd end

  -- and where only its guide is, that does
  pub guided_told : IsClear (SizeCause after) store_order → (told : Option Refusal) → IsToldBy (SetsCause db.nodes after) sets_order told
      → IsToldBy (DatabaseCause db changes) store_order told
  guided_told sized None first = tt
  guided_told sized (Some refusal) first = sized_on sized refusal (guided_first refusal first)
