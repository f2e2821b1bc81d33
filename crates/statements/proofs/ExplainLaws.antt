-- Plans that are shown: what refuses an explain, what it shows, and that there is one plan.
use Rattle.std.proofs.Common.{◌≡◌, ℕ, inl, List, ◌∷◌, ◌++◌, length, Option, refl, sym, subst, ◌∙◌}
use Rattle.lore_base.specs.Databases.{Database}
use Rattle.lore_base.specs.Verdicts.{IsClear}
use Rattle.lore_base.proofs.VerdictLaws.{clear_both}
use Rattle.list_laws.proofs.SumLaws.{distinct_as_long}
use Rattle.lorel_trees.specs.Trees as t
use Rattle.lorel_trees.specs.Trees.{SelectTree, StatementTree}
use Rattle.index_laws.proofs.SortedEntries.{entries_are_determined}
use Rattle.lorel_bound.specs.Bound.{BoundTree}
use Rattle.bind_laws.proofs.BindingLaws.{has_one_binding}
use Rattle.planner.specs.Choices.{AreCounts, kind_by}
use Rattle.planner.proofs.OneLaws.{has_one_count}
use Rattle.lore_base.specs.Paths.{Reaches}
use Rattle.statements.specs.Types.{ValueEntry, PlanKind, Refusal, Reply, PlanShown}
use Rattle.statements.specs.Types.refusals
use Rattle.statements.specs.Plans.{AreCountsOver, IsKindOver, ShowsPlan}
use Rattle.statements.specs.Statements.{Cause, cause_order, Explains, Executes}
use Rattle.statements.specs.inside.Stages.{ReadCause, bind_order, bound_order}
use Rattle.statements.proofs.CauseLaws.{locals, early, sizes, late}
use Rattle.statements.proofs.QuietLaws.{behind_binding}
use Rattle.statements.proofs.ReadLaws.{read_bound}

-- ---- how it is executed
abbrev behind : List Refusal
behind = locals ++ (refusals.TooManyRows ∷ refusals.NotOne ∷ (early ++ sizes))

module _ (db : Database) (query : SelectTree) where
  abbrev tree : StatementTree
  tree = t.explain query

  explain_clear : IsClear (ReadCause db query) bind_order → IsClear (Cause db tree) cause_order
  explain_clear clear =
      clear_both (Cause db tree) bound_order (behind ++ late) (read_bound db tree query refl (λ h. h) clear)
      (clear_both (Cause db tree) behind late (behind_binding db tree (λ h. h) refl) (λ h. h, (λ h. h, (λ h. h, tt))))

  pub explained : (reply : Reply) → IsClear (ReadCause db query) bind_order → ShowsPlan db query reply → Executes db tree reply db
  explained reply clear shows = inl (explain_clear clear, (refl, shows))

-- ---- there is one plan
module _ (db : Database) where
  pub one_counts : (bound : BoundTree) (candidates found other others : Option ℕ) → AreCountsOver db bound candidates found
      → AreCountsOver db bound other others → (candidates ≡ other) × (found ≡ others)
  one_counts bound candidates found other others are too =
      let entries = entries_are_determined db.graph.objects db.graph.edges are.entries too.entries are.are_entries too.are_entries in
      has_one_count db.labels db.graph.edges too.entries bound candidates found other others are.apart
      (subst (λ (e : List ValueEntry). AreCounts db.labels e (Reaches db.labels db.graph.edges) bound candidates found) entries are.counted) too.counted

  pub one_kind : (candidates found other others : Option ℕ) (kind last : PlanKind) → candidates ≡ other → found ≡ others
      → IsKindOver db candidates found kind → IsKindOver db other others last → kind ≡ last
  one_kind candidates found other others kind last same alike is too =
      let many = distinct_as_long is.sets too.sets is.are_sets.apart too.are_sets.apart
      (λ set. (λ at. (too.are_sets.exact set).1 ((is.are_sets.exact set).0 at), λ at. (is.are_sets.exact set).1 ((too.are_sets.exact set).0 at))) in
      is.is ∙ (λ i. kind_by db.mode (same i) (alike i) (many i) (length db.graph.objects)) ∙ sym too.is

  one_plan : (query : SelectTree) (reply other : Reply) → ShowsPlan db query reply → ShowsPlan db query other → reply ≡ other
  one_plan query reply other h k =
      let bound = has_one_binding db.graph.names query h.bound k.bound h.plan.binding k.plan.binding in
      let counts = one_counts k.bound h.candidates h.found k.candidates k.found
      (subst (λ (b : BoundTree). AreCountsOver db b h.candidates h.found) bound h.plan.counts) k.plan.counts in
      let kind = one_kind h.candidates h.found k.candidates k.found h.kind k.kind counts.0 counts.1 h.plan.kind_is k.plan.kind_is in
      h.is ∙ (λ i. PlanShown (kind i) (counts.0 i) (counts.1 i)) ∙ sym k.is

  pub one_explained : (query : SelectTree) (reply other : Reply) (after later : Database) → Explains db query reply after
      → Explains db query other later → (reply ≡ other) × (after ≡ later)
  one_explained query reply other after later h k = (one_plan query reply other h.1 k.1, h.0 ∙ sym k.0)
