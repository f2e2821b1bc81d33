-- Label paths as statements: what refuses them, and what the guide of a store tells of a path.
use Rattle.std.proofs.Common.{◌≡◌, ◌≢◌, inl, inr, ℕ, List, ◌++◌, Some, AllPairs, refl, subst}
use Rattle.std.specs.Prelude.{ℤ}
use Rattle.lore_base.specs.Databases.{Database, IsValid}
use Rattle.lore_base.specs.ChangeSets.{IsBound}
use Rattle.lore_base.specs.Verdicts.{IsClear, IsToldBy}
use Rattle.lore_base.proofs.VerdictLaws.{clear_both}
use Rattle.lorel_trees.specs.Trees as t
use Rattle.dataguide.specs.Guides.{GuideGraph}
use Rattle.guide_query.specs.GuideLines.{IsLabelledGuide}
use Rattle.guide_query.specs.PathLines.{AreBrowseLines, AreSampleLines}
use Rattle.lore_store.specs.Stores.{IsGuided}
use Rattle.statements.specs.Types.{Oid, Edge, Value, SAMPLE}
use Rattle.statements.specs.Types.refusals
use Rattle.statements.specs.Forms.{IsBetween}
use Rattle.statements.specs.Statements.{Cause, cause_order}
use Rattle.statements.specs.inside.Stages.{fit_order}
use Rattle.statements.proofs.OrderLaws.{told_right}
use Rattle.statements.proofs.CauseLaws.{sizes, late}
use Rattle.statements.proofs.QuietLaws.{nothing_before}
use Rattle.statements.proofs.GuideStatementLaws.{shown_guide}

module _ (db : Database) (start : List ℕ) (labels : List (List ℕ)) where
  -- ---- where it leads
  pub browse_clear : IsBound db.graph.names start → IsClear (Cause db (t.browse start labels)) cause_order
  browse_clear bound =
      clear_both (Cause db (t.browse start labels)) (fit_order ++ sizes) late
      (nothing_before db (t.browse start labels) (λ h. h) (λ unbound. unbound bound) refl refl) (λ h. h, (λ h. h, (λ h. h, tt)))

  pub browse_told : (IsBound db.graph.names start → ⊥) → IsToldBy (Cause db (t.browse start labels)) cause_order (Some refusals.UnknownName)
  browse_told unbound = inr (λ h. h, inl (inl unbound, refl))

  -- ---- its first objects
  module _ (count : ℤ) where
    sample_before : IsBound db.graph.names start → IsClear (Cause db (t.sample start labels count)) (fit_order ++ sizes)
    sample_before bound = nothing_before db (t.sample start labels count) (λ h. h) (λ unbound. unbound bound) refl refl

    pub sample_clear : IsBound db.graph.names start → IsBetween 1 SAMPLE count → IsClear (Cause db (t.sample start labels count)) cause_order
    sample_clear bound within =
        clear_both (Cause db (t.sample start labels count)) (fit_order ++ sizes) late (sample_before bound)
        (λ outside. outside within, (λ h. h, (λ h. h, tt)))

    pub sample_unbound : (IsBound db.graph.names start → ⊥) → IsToldBy (Cause db (t.sample start labels count)) cause_order (Some refusals.UnknownName)
    sample_unbound unbound = inr (λ h. h, inl (inl unbound, refl))

    pub sample_outside : IsBound db.graph.names start → (IsBetween 1 SAMPLE count → ⊥)
        → IsToldBy (Cause db (t.sample start labels count)) cause_order (Some refusals.LimitRange)
    sample_outside bound outside =
        told_right (Cause db (t.sample start labels count)) (fit_order ++ sizes) late (Some refusals.LimitRange) (sample_before bound)
        (inl (outside, refl))

-- ---- what a store's guide tells, with label texts and objects that are the database's
module _ (db : Database) (valid : IsValid db) (guide : GuideGraph) (guided : IsGuided db.graph guide) (start : List ℕ) (path : List (List ℕ))
    (lines : List (List ℕ)) (labels : List (List ℕ)) (texts : labels ≡ db.labels) where
  pub browsed : ((names : List (List ℕ × Oid)) (edges : List Edge) → IsLabelledGuide guide labels names edges
      → AllPairs (λ a b. a ≢ b) labels → AreBrowseLines names edges labels start path lines)
      → AreBrowseLines db.graph.names db.graph.edges db.labels start path lines
  browsed gives =
      let Gives = λ (l : List (List ℕ)). (names : List (List ℕ × Oid)) (edges : List Edge) → IsLabelledGuide guide l names edges
      → AllPairs (λ a b. a ≢ b) l → AreBrowseLines names edges l start path lines in
      subst Gives texts gives db.graph.names db.graph.edges (shown_guide db valid guide guided) valid.restorable.labels_distinct

  pub sampled : (count : ℕ) (objects : List (Oid × Value)) → objects ≡ db.graph.objects
      → ((names : List (List ℕ × Oid)) (edges : List Edge) → IsLabelledGuide guide labels names edges
      → AllPairs (λ a b. a ≢ b) labels → AreSampleLines names objects edges labels start path count lines)
      → AreSampleLines db.graph.names db.graph.objects db.graph.edges db.labels start path count lines
  sampled count objects valued gives =
      let Gives = λ (l : List (List ℕ)) (o : List (Oid × Value)). (names : List (List ℕ × Oid)) (edges : List Edge)
      → IsLabelledGuide guide l names edges → AllPairs (λ a b. a ≢ b) l → AreSampleLines names o edges l start path count lines in
      subst (λ (o : List (Oid × Value)). Gives db.labels o) valued (subst (λ (l : List (List ℕ)). Gives l objects) texts gives)
      db.graph.names db.graph.edges (shown_guide db valid guide guided) valid.restorable.labels_distinct
