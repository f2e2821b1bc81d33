use Rattle.std.proofs.Common.{arith, None, Some, ◌-◌}
use Rattle.indexmap.specs.IndexMap.{get}
use Rattle.block_haste.specs.inside.Tallies.{key_eq}
use Rattle.block_haste.proofs.TallyLaws.{counted_less}
use Rattle.block_haste.proofs.tally.count_less.Goals as goal

pub returns-then-count-le1 : goal.returns-then-count-le1
returns-then-count-le1 c =
    counted_less (get key_eq c.args.counts.now) (get key_eq c.swap_remove.new.self) c.args.key None (omega (arith, c.count_of-count.ensures, c.if-count-le1.true)) c.swap_remove.ensures.updates.0

pub returns-in_ok-insert : goal.returns-in_ok-insert
returns-in_ok-insert c =
    counted_less (get key_eq c.args.counts.now) (get key_eq c.insert.new.self) c.args.key (Some (c.count_of-count.result - 1)) (omega (arith, c.count_of-count.ensures)) c.in_ok-insert.ensures.updates.0
