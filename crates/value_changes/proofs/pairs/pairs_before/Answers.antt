use Rattle.std.proofs.Common.{List, Contains, subst}
use Rattle.value_changes.specs.declared.pairs.Pair.{Pair}
use Rattle.value_changes.specs.inside.Sets.{AreAdded}
use Rattle.value_changes.specs.inside.Pairs.{pair_cmp, pair_of, IsAtomic, IsAtomicPairOf}
use Rattle.value_changes.proofs.PairLaws.{same_pair, atomic-paired}
use Rattle.value_changes.proofs.SortedLaws.{set-sorted}
use Rattle.value_changes.proofs.pairs.pairs_before.Goals as goal

pub returns : goal.returns
returns g c =
    let objects = g.V.ValueOf.objects c.args.before.now in
    let entering = c.args.entering.now in
    let adds = subst (λ (old : List Pair). AreAdded pair_of (IsAtomic objects) entering old c.add_pairs.new.pairs)
    c.in_ok-pairs.ensures c.in_ok-add_pairs.ensures in
    let sorted = c.in_ok-sorted.ensures in
    set-sorted pair_cmp (IsAtomicPairOf objects (Contains entering)) c.add_pairs.new.pairs c.in_ok-sorted.sorted
    sorted.ascend (sorted.members same_pair) (atomic-paired objects entering c.add_pairs.new.pairs adds)
