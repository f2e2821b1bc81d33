use Rattle.std.proofs.Common.{List, subst}
use Rattle.value_changes.specs.declared.pairs.Pair.{Pair}
use Rattle.value_changes.specs.inside.Sets.{AreAdded}
use Rattle.value_changes.specs.inside.Pairs.{pair_cmp, pair_of, IsAtomic, IsAtomicPairOf, IsThere}
use Rattle.value_changes.proofs.PairLaws.{same_edge, same_pair, atomic-paired_then}
use Rattle.value_changes.proofs.SortedLaws.{set-sorted}
use Rattle.value_changes.proofs.MovingLaws.{kept-sorted}
use Rattle.value_changes.proofs.pairs.pairs_then.Goals as goal

pub returns : goal.returns
returns g c =
    let objects = g.W.ValueOf.objects c.args.after.now in
    let entering = c.args.entering.now in
    let lost = c.args.lost.now in
    let fresh = c.args.fresh.now in
    let kept = c.in_ok-kept.kept in
    let keeps = kept-sorted entering lost c.in_ok-gone.gone kept (c.in_ok-gone.ensures.members same_edge)
    (rw c.as_slice.ensures at c.in_ok-kept.ensures) in
    let adds = subst (λ (old : List Pair). AreAdded pair_of (IsAtomic objects) kept old c.add_pairs.new.pairs)
    c.in_ok-pairs.ensures (rw c.as_slice-2.ensures at c.in_ok-add_pairs.ensures) in
    let sorted = c.in_ok-sorted.ensures in
    set-sorted pair_cmp (IsAtomicPairOf objects (IsThere entering lost fresh)) c.add_pairs-2.new.pairs
    c.in_ok-sorted.sorted sorted.ascend (sorted.members same_pair)
    (atomic-paired_then objects entering lost fresh kept c.add_pairs.new.pairs c.add_pairs-2.new.pairs keeps adds
    c.in_ok-add_pairs-2.ensures)
