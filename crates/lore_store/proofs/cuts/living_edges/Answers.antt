use Rattle.std.proofs.Common.{◌↔◌, List, [], Contains, refl, sym, true≢false, ◌∙◌, subst}
use Rattle.std.proofs.lemmas.List.{take_all}
use Rattle.lore_base.specs.declared.edges.Edge.{Edge}
use Rattle.lore_base.specs.Databases.{IsLive}
use Rattle.value_changes.proofs.PairLaws.{same_edge}
use Rattle.lore_store.specs.inside.Cuts.{AreLiving}
use Rattle.lore_store.proofs.CutLaws.{living-none, living-more, living-less}
use Rattle.lore_store.proofs.cuts.living_edges.Goals as goal
use Rattle.lore_store.proofs.cuts.living_edges.Goals.{then-is_live+in_ok-push, else-is_live}

pub edges-init : goal.edges-init
edges-init g c = living-none (g.V.ValueOf.objects c.args.values.now) [] c.new-living.result refl c.new-living.ensures

pub edges-preserved : goal.edges-preserved
edges-preserved g c =
    let objects = g.V.ValueOf.objects c.args.values.now in
    elim c.if-is_live.branch [
      | then-is_live+in_ok-push w ↦ rw w.living-is
          (living-more objects c.args.edges.now c.edges.edge-index _ c.edges.living _ c.edges-test.true c.edges.invariant
          w.in_ok-push.ensures.ok (c.is_live.ensures.0 w.if-is_live.true))
      | else-is_live w ↦ rw w.living-is
          (living-less objects c.args.edges.now c.edges.edge-index _ c.edges.living _ c.edges-test.true c.edges.invariant
          refl (λ live. true≢false (sym (c.is_live.ensures.1 live) ∙ w.if-is_live.false)))
    ]

pub returns-clause-ascend : goal.returns-clause-ascend
returns-clause-ascend g c = c.sort_set.ensures.ascend

pub returns-clause-members : goal.returns-clause-members
returns-clause-members g c =
    let objects = g.V.ValueOf.objects c.args.values.now in
    let are = subst (λ (l : List Edge). AreLiving l objects c.edges.living)
    (take_all c.edges.edge-index c.args.edges.now c.edges-test.false) c.edges.invariant in
    λ edge. (
      λ at. (are edge).0 ((c.sort_set.ensures.members same_edge edge).0 at),
      λ both. (c.sort_set.ensures.members same_edge edge).1 ((are edge).1 both),
    )
