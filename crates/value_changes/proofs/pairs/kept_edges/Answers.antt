use Rattle.std.proofs.Common.{List, subst, sym, true≢false, ◌∙◌}
use Rattle.std.proofs.lemmas.List.{take_all}
use Rattle.value_changes.specs.Types.{Edge}
use Rattle.value_changes.specs.inside.Pairs.{AreKept}
use Rattle.value_changes.proofs.MovingLaws.{kept-none, kept-more, kept-less}
use Rattle.value_changes.proofs.pairs.kept_edges.Goals as goal
use Rattle.value_changes.proofs.pairs.kept_edges.Goals.{then-not-is_among+in_ok-push, else-not-is_among}

pub edges-init : goal.edges-init
edges-init c = rw c.in_ok-kept.ensures (kept-none _)

pub edges-preserved : goal.edges-preserved
edges-preserved c =
    elim c.if-not-is_among.branch [
      | then-not-is_among+in_ok-push w ↦ rw w.kept-is
          (kept-more _ _ _ _ _ c.edges-test.true c.edges.invariant _ w.in_ok-push.ensures.ok
          (λ there. true≢false (sym (c.is_among.ensures.1 there) ∙ w.if-not-is_among.true)))
      | else-not-is_among w ↦ rw w.kept-is (kept-less _ _ _ _ _ c.edges-test.true c.edges.invariant
          (c.is_among.ensures.0 w.if-not-is_among.false))
    ]

pub returns : goal.returns
returns c =
    subst (λ (edges : List Edge). AreKept edges c.args.lost.now c.edges.kept)
    (take_all c.edges.edge-index c.args.edges.now c.edges-test.false) c.edges.invariant
