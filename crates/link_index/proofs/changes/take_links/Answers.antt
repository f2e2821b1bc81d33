use Rattle.link_index.proofs.CommitLaws.{taken_step, still_has}
use Rattle.link_index.proofs.changes.take_links.Goals as goal

pub take_link-last-requires-clause-has : goal.take_link-last-requires-clause-has
take_link-last-requires-clause-has c = still_has c.args.gone.now c.args.heads.now c.gone.heads c.args.records.now c.gone.records c.gone.link-index _
    c.gone.invariant c.requires.order c.requires.has c.gone-test.true

pub gone-preserved : goal.gone-preserved
gone-preserved c = taken_step c.args.gone.now c.gone.link-index _ c.gone-test.true c.args.heads.now c.gone.heads c.take_link-last.new.heads
    c.args.records.now c.gone.records c.take_link-last.new.records c.gone.invariant c.take_link-last.ensures
