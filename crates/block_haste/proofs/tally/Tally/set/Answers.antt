use Rattle.std.proofs.Common.{arith, sym, subst, List, length, ◌<◌}
use Rattle.indexmap.specs.IndexMap.{get}
use Rattle.block_haste.specs.inside.Tallies.{Key, key_eq}
use Rattle.block_haste.proofs.TallyLaws.{AreCounts-set}
use Rattle.block_haste.proofs.tally.Tally.set.Goals as goal

pub invariant_of-result : goal.invariant_of-result
invariant_of-result c =
    AreCounts-set c.self.inside.keys.items (get key_eq c.self.inside.counts) (get key_eq c.count_less.new.counts) (get key_eq c.count_more.new.counts) c.args.place c.args.key c.index-old.result.now
    (subst (λ (l : List Key). c.args.place < length l) (sym c.self.view_is) c.requires) c.index-old.ensures c.self.invariant c.in_ok-count_less.ensures c.in_ok-count_more.ensures
