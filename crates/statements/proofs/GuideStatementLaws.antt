-- The guide as a statement, and its limit: neither is refused for what other statements are; and what a store's guide tells.
use Rattle.std.proofs.Common.{◌≡◌, inl, ℕ, List, ◌++◌, Some, None}
use Rattle.std.proofs.Common.{Result, Ok, Err, IfOk, refl, sym, ap, subst, ◌∙◌, length}
use Rattle.std.specs.Prelude.{ℤ, IfErr, OnOk}
use Rattle.std.proofs.lemmas.List.{length-map}
use Rattle.lore_base.specs.Databases.{Database, IsValid}
use Rattle.lore_base.specs.Verdicts.{IsClear, IsToldBy}
use Rattle.lore_base.proofs.VerdictLaws.{clear_both}
use Rattle.lorel_trees.specs.Trees as t
use Rattle.dataguide.specs.Types.{GuideNode}
use Rattle.dataguide.specs.Guides.{GuideGraph, sets_of}
use Rattle.guide_query.specs.GuideLines.{IsLabelledGuide, AreGuideLines}
use Rattle.lore_store.specs.Stores.{IsGuided}
use Rattle.statements.specs.Types.{Oid, Edge, Reply, Changed}
use Rattle.statements.specs.Types.refusals
use Rattle.statements.specs.Statements.{IsNoLimit, Cause, cause_order, Counts, Shows, Limits, Executes}
use Rattle.statements.specs.inside.Stages.{fit_order}
use Rattle.statements.specs.Stops.{told}
use Rattle.statements.specs.declared.stops.Stop.{Stop}
use Rattle.statements.proofs.OrderLaws.{told_right}
use Rattle.statements.proofs.CauseLaws.{sizes, late}
use Rattle.statements.proofs.QuietLaws.{nothing_before}

-- ---- what refuses them
module _ (db : Database) where
  pub guide_clear : IsClear (Cause db t.guide) cause_order
  guide_clear = clear_both (Cause db t.guide) (fit_order ++ sizes) late (nothing_before db t.guide (λ h. h) (λ h. h) refl refl) (λ h. h, (λ h. h, (λ h. h, tt)))

module _ (db : Database) (nodes : ℤ) where
  nodes_before : IsClear (Cause db (t.set_nodes nodes)) (fit_order ++ sizes)
  nodes_before = nothing_before db (t.set_nodes nodes) (λ h. h) (λ h. h) refl refl

  pub nodes_clear : (IsNoLimit db nodes → ⊥) → IsClear (Cause db (t.set_nodes nodes)) cause_order
  nodes_clear limit = clear_both (Cause db (t.set_nodes nodes)) (fit_order ++ sizes) late nodes_before (limit, (λ h. h, (λ h. h, tt)))

  pub nodes_told : IsNoLimit db nodes → IsToldBy (Cause db (t.set_nodes nodes)) cause_order (Some refusals.LimitRange)
  nodes_told none =
      told_right (Cause db (t.set_nodes nodes)) (fit_order ++ sizes) late (Some refusals.LimitRange) nodes_before (inl (none, refl))

-- ---- how they are executed
pub shown : (db : Database) (done : Result Reply Stop) → IfOk done (λ reply. Shows db reply db) → IfOk done (λ reply. Executes db t.guide reply db)
shown db (Ok reply) h = inl (guide_clear db, h)
shown db (Err stop) h = tt

pub shown_told : (db : Database) (done : Result Reply Stop) → IfErr done (λ stop. told stop ≡ None)
    → IfErr done (λ stop. IsToldBy (Cause db t.guide) cause_order (told stop))
shown_told db (Ok reply) h = tt
shown_told db (Err stop) h = subst (IsToldBy (Cause db t.guide) cause_order) (sym h) tt

module _ (before after : Database) (nodes : ℤ) where
  pub limited : (done : Result Reply Stop) → IfOk done (λ reply. Limits before nodes reply after) → OnOk done (IsNoLimit before nodes → ⊥)
      → IfOk done (λ reply. Executes before (t.set_nodes nodes) reply after)
  limited (Ok reply) h limit = inl (nodes_clear before nodes limit, h)
  limited (Err stop) h limit = tt

  pub limited_told : (done : Result Reply Stop)
      → IfErr done (λ stop. (told stop ≡ Some refusals.LimitRange) × IsNoLimit before nodes)
      → IfErr done (λ stop. IsToldBy (Cause before (t.set_nodes nodes)) cause_order (told stop))
  limited_told (Ok reply) h = tt
  limited_told (Err stop) h =
      subst (IsToldBy (Cause before (t.set_nodes nodes)) cause_order) (sym h.0) (nodes_told before nodes h.1)

-- ---- what a store's guide tells
-- its nodes are counted
pub counted : (db : Database) (guide : GuideGraph) → IsGuided db.graph guide → (reply : Reply)
    → reply ≡ Changed (length db.graph.objects) (length db.graph.edges) (length guide.nodes) → Counts db reply
counted db guide guided reply is = (
  sets_of guide.nodes,
  guided.stands.nodes,
  is ∙ ap (λ (count : ℕ). Changed (length db.graph.objects) (length db.graph.edges) count)
      (sym (length-map guide.nodes (λ (node : GuideNode). node.set))),
)

-- and they are shown, with names and label texts that are the database's
module _ (db : Database) (valid : IsValid db) (guide : GuideGraph) (guided : IsGuided db.graph guide) where
  pub shown_guide : IsLabelledGuide guide db.labels db.graph.names db.graph.edges
  shown_guide = record { ordered = guided; table = valid.restorable.rooted.well_formed.ordered.names_ascend; labelled = valid.restorable.labelled }

  pub shown_lines : (labels : List (List ℕ)) (names : List (List ℕ × Oid)) → labels ≡ db.labels → names ≡ db.graph.names
      → (lines : List (List ℕ)) → ((edges : List Edge) → IsLabelledGuide guide labels names edges → AreGuideLines names edges labels lines)
      → AreGuideLines db.graph.names db.graph.edges db.labels lines
  shown_lines labels names texts bound lines gives =
      let Given = λ (l : List (List ℕ)) (n : List (List ℕ × Oid)).
      IsLabelledGuide guide l n db.graph.edges → AreGuideLines n db.graph.edges l lines in
      subst (λ (n : List (List ℕ × Oid)). Given db.labels n) bound
      (subst (λ (l : List (List ℕ)). Given l names) texts (gives db.graph.edges)) shown_guide
