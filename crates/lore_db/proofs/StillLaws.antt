-- Statements that list no changes: what a history and views keep stays right behind them.
use Rattle.std.proofs.Common.{◌≡◌, ◌⊎◌, inl, inr, ◌<◌, List, [], ◌∷◌, ◌++◌, Option, Some, None, refl, sym, ap, subst, ◌∙◌, arith}
use Rattle.std.specs.Prelude.{MatchOption}
use Rattle.std.proofs.lemmas.Option.{none-some}
use Rattle.lore_base.specs.Databases.{Database, IsValid, new_database}
use Rattle.lore_base.specs.Verdicts.{IsClear}
use Rattle.lore_base.proofs.VerdictLaws.{clear_right}
use Rattle.lorel_trees.specs.declared.dump_trees.DumpTree.{DumpTree}
use Rattle.lorel_trees.specs.Trees as t
use Rattle.lorel_trees.specs.Trees.{SelectTree, StatementTree}
use Rattle.doem_history.specs.Histories.{KeptHistory}
use Rattle.live_views.specs.Views.{NamedView}
use Rattle.view_laws.specs.Freshness.{query_in, queries_of, AreViewsOf}
use Rattle.view_laws.proofs.FreshLaws.{still_views, still_fresh, no_views}
use Rattle.statements.specs.Forms.{IsChanging, IsOfSession}
use Rattle.statements.specs.Statements.{Cause, cause_order, Executes}
use Rattle.statements.specs.inside.Stages.{fit_order}
use Rattle.statements.proofs.CauseLaws.{sizes, late}
use Rattle.lore_db.specs.Types.{Reply}
use Rattle.lore_db.specs.States.{present, IsRestore}
use Rattle.lore_db.specs.Freshness.{KeepsFresh}
use Rattle.lore_db.specs.inside.Kept.{kept_moments, kept_of, IsLast}
use Rattle.lore_db.proofs.KeptLaws.{plain_unanswered, unanswered_keeps}
use Rattle.lore_db.proofs.PerformLaws.{still_graph, still_present}

-- where a view is kept the database isn't new, so none is restored
next_is : (db : Database) → db ≡ new_database → db.graph.next ≡ 1
next_is db new = ap (λ (d : Database). d.graph.next) new

some_there : (view : NamedView) (views : List NamedView) → view ∷ views ≡ [] → ⊥
some_there view views is = cc

restored_without : (db : Database) (views : List NamedView) → AreViewsOf db views → (text : DumpTree)
    → IsClear (Cause db (t.restore text)) cause_order → views ≡ []
restored_without db [] of text clear = refl
restored_without db (view ∷ views) of text clear =
    let old : 1 < db.graph.next = of.old (some_there view views) in
    let last = clear_right (Cause db (t.restore text)) (fit_order ++ sizes) late clear in
    absurd (last.1.0 (λ fresh. (let next = next_is db fresh in omega (arith, old, next))))

module _ (db then : Database) (statement : StatementTree) (still : IsChanging statement → ⊥) (reply : Reply) (executed : Executes db statement reply then) where
  -- the last moment is the present one
  pub still_last : (history : Option KeptHistory) → (MatchOption (kept_moments history) ⊥ (λ moments. IsRestore statement) → ⊥) → IsLast history (present db)
      → IsLast history (present then)
  still_last None free last = tt
  still_last (Some kept) free last = last ∙ sym (still_present db statement still free reply then executed)

  module _ (views : List NamedView) (of : AreViewsOf db views) (valid : IsValid db) (valid_then : IsValid then) where
    -- the graph and the labels stay, or there is no view
    same_or_none : (own : StatementTree) → (IsChanging own → ⊥) → Executes db own reply then
        → ((then.graph ≡ db.graph) × (then.labels ≡ db.labels)) ⊎ (views ≡ [])
    same_or_none (t.restore text) stays (inl (clear, does)) = inr (restored_without db views of text clear)
    same_or_none (t.restore text) stays (inr (refusal, first, (replied, same))) =
        inl (ap (λ (d : Database). d.graph) same, ap (λ (d : Database). d.labels) same)
    same_or_none own stays done = inl (still_graph db own stays (λ h. h) reply then done)

    pub still_are : AreViewsOf then views
    still_are = elim (same_or_none statement still executed) [
      | inl same ↦ still_views db then valid valid_then same.0 same.1 views of
      | inr none ↦ subst (AreViewsOf then) (sym none) (no_views then)
    ]

    -- and the same views are fresh
    pub still_keeps : (IsOfSession statement → ⊥) → (history : Option KeptHistory)
        → KeepsFresh (kept_of db history views) statement reply (kept_of then history views)
    still_keeps plain history =
        unanswered_keeps (kept_of db history views) (kept_of then history views) statement reply (plain_unanswered statement plain)
        (λ name query asked. elim (same_or_none statement still executed) [
          | inl same ↦ still_fresh db then valid valid_then same.0 same.1 views of name query
          | inr none ↦ absurd (none-some query (subst (λ (all : List NamedView). query_in (queries_of all) name ≡ Some query) none asked))
        ])
