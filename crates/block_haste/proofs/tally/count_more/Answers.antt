use Rattle.indexmap.specs.IndexMap.{get}
use Rattle.block_haste.specs.inside.Tallies.{key_eq}
use Rattle.block_haste.proofs.TallyLaws.{counted_more}
use Rattle.block_haste.proofs.tally.count_more.Goals as goal

pub returns : goal.returns
returns c = counted_more (get key_eq c.args.counts.now) (get key_eq c.insert.new.self) c.args.key c.count_of-count.result c.count_of-count.ensures c.in_ok-insert.ensures.updates.0
