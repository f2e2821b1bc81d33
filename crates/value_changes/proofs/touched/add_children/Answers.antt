use Rattle.std.proofs.Common.{List, subst, sym, true≢false, ◌∙◌}
use Rattle.std.proofs.lemmas.List.{take_all}
use Rattle.value_changes.specs.Types.{Edge}
use Rattle.value_changes.specs.Reads.{IsOldValued}
use Rattle.value_changes.specs.inside.Sets.{AreAdded}
use Rattle.value_changes.specs.inside.Touched.{child_of}
use Rattle.value_changes.proofs.AddedLaws.{added-none, added-more, added-less}
use Rattle.value_changes.proofs.touched.add_children.Goals as goal
use Rattle.value_changes.proofs.touched.add_children.Goals.{then-is_old_valued+in_ok-push, else-is_old_valued}

pub edges-init : goal.edges-init
edges-init g c = added-none child_of (IsOldValued (g.V.ValueOf.objects c.args.before.now) (g.W.ValueOf.objects c.args.after.now)) _

pub edges-preserved : goal.edges-preserved
edges-preserved g c =
    let Passes = IsOldValued (g.V.ValueOf.objects c.args.before.now) (g.W.ValueOf.objects c.args.after.now) in
    elim c.if-is_old_valued.branch [
      | then-is_old_valued+in_ok-push w ↦ rw w.oids-is
          (added-more child_of Passes c.args.edges.now _ c.edges.oids c.edges.edge-index _ c.edges-test.true c.edges.invariant
          _ w.in_ok-push.ensures.ok (c.is_old_valued.ensures.0 w.if-is_old_valued.true))
      | else-is_old_valued w ↦ rw w.oids-is
          (added-less child_of Passes c.args.edges.now _ c.edges.oids c.edges.edge-index _ c.edges-test.true c.edges.invariant
          (λ has. true≢false (sym (c.is_old_valued.ensures.1 has) ∙ w.if-is_old_valued.false)))
    ]

pub returns : goal.returns
returns g c =
    subst (λ (edges : List Edge). AreAdded child_of
    (IsOldValued (g.V.ValueOf.objects c.args.before.now) (g.W.ValueOf.objects c.args.after.now)) edges c.args.oids.now c.edges.oids)
    (take_all c.edges.edge-index c.args.edges.now c.edges-test.false) c.edges.invariant
