use Rattle.std.proofs.Common.{◌∙◌, arith}
use Rattle.link_index.proofs.CommitLaws.{put_step, fresh_at}
use Rattle.link_index.proofs.changes.put_links.Goals as goal

pub put_link-requires-clause-new : goal.put_link-requires-clause-new
put_link-requires-clause-new c = fresh_at c.args.come.now c.come.heads.items c.args.records.now.items c.come.records.items c.come.link-index _
    c.come.invariant.put c.requires.order c.requires.new c.come-test.true

pub come-preserved : goal.come-preserved
come-preserved c = record {
  put = put_step c.args.come.now c.come.link-index _ c.come-test.true c.come.heads.items c.put_link.new.heads.items
      c.args.records.now.items c.come.records.items c.put_link.new.records.items c.come.invariant.put c.put_link.ensures.put;
  heads_len = omega (arith, c.put_link.ensures.heads_len, c.come.invariant.heads_len);
  heads_capacity = c.put_link.ensures.heads_capacity ∙ c.come.invariant.heads_capacity;
  len = omega (arith, c.put_link.ensures.len, c.come.invariant.len);
  capacity = c.put_link.ensures.capacity ∙ c.come.invariant.capacity;
}
