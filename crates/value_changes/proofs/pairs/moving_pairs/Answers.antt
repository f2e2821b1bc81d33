use Rattle.std.proofs.Common.{List, subst}
use Rattle.std.proofs.lemmas.List.{take_all}
use Rattle.value_changes.specs.declared.pairs.Pair.{Pair}
use Rattle.value_changes.specs.inside.Sets.{AreSetOf}
use Rattle.value_changes.specs.inside.Pairs.{pair_cmp, IsMoving}
use Rattle.value_changes.proofs.MovingLaws.{moving-none, moving-all, moving-more, moving-less}
use Rattle.value_changes.proofs.EnteredLaws.{none_read}
use Rattle.value_changes.proofs.pairs.moving_pairs.Goals as goal
use Rattle.value_changes.proofs.pairs.moving_pairs.Goals.{then-is_moving+in_ok-push, else-is_moving}

pub returns-then-is_empty : goal.returns-then-is_empty
returns-then-is_empty c =
    rw c.in_ok-all.ensures (moving-all c.args.pairs.now c.args.others.now c.args.given.now
    (none_read c.args.others.now c.is_empty.result c.is_empty.ensures c.if-is_empty.true) c.requires.pairs)

pub pairs-init : goal.pairs-init
pairs-init c = rw c.in_ok-moving.ensures (moving-none _ _)

pub pairs-preserved : goal.pairs-preserved
pairs-preserved c =
    elim c.if-is_moving.branch [
      | then-is_moving+in_ok-push w ↦ rw w.moving-is
          (moving-more _ _ _ _ _ _ c.pairs-test.true c.pairs.invariant c.requires.pairs _ w.in_ok-push.ensures.ok
          (c.is_moving.ensures.yes w.if-is_moving.true))
      | else-is_moving w ↦ rw w.moving-is
          (moving-less _ _ _ _ _ _ c.pairs-test.true c.pairs.invariant
          (c.is_moving.ensures.no w.if-is_moving.false).0 (c.is_moving.ensures.no w.if-is_moving.false).1)
    ]

pub returns : goal.returns
returns c =
    subst (λ (pairs : List Pair). AreSetOf pair_cmp (IsMoving pairs c.args.others.now c.args.given.now) c.pairs.moving)
    (take_all c.pairs.pair-index c.args.pairs.now c.pairs-test.false) c.pairs.invariant
