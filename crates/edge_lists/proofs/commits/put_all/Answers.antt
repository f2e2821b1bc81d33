use Rattle.std.proofs.Common.{◌∙◌, []}
use Rattle.edge_lists.proofs.ChangeLaws.{live-same, none_waits}
use Rattle.edge_lists.proofs.CommitLaws.{fresh_at, put_step}
use Rattle.edge_lists.proofs.commits.put_all.Goals as goal

pub put_out-key-requires-clause-live : goal.put_out-key-requires-clause-live
put_out-key-requires-clause-live c = live-same c.args.objects.now c.come.objects c.come.invariant.put.objects _ (c.requires.live c.come.edge-index _ c.come-test.true)

pub put_out-key-requires-clause-new : goal.put_out-key-requires-clause-new
put_out-key-requires-clause-new c = fresh_at c.args.come.now c.args.objects.now c.come.objects c.args.records.now c.come.records c.come.keys.items c.come.edge-index _
    c.come.invariant.put c.requires.order c.requires.new c.come-test.true

pub put_out-key-requires-clause-start : goal.put_out-key-requires-clause-start
put_out-key-requires-clause-start c = c.start_behind-start.ensures c.come.records [] c.come.invariant.last

pub come-preserved : goal.come-preserved
come-preserved c = record {
  put = put_step c.args.come.now c.come.edge-index _ c.come-test.true c.args.objects.now c.come.objects c.put_out-key.new.objects
      c.args.records.now c.come.records c.put_out-key.new.records c.come.keys.items c.push_reserved.new.self.items c.put_out-key.result
      c.push_reserved.ensures.items c.come.invariant.put c.put_out-key.ensures;
  room = c.push_reserved.ensures.capacity ∙ c.come.invariant.room;
  last = (c.put_out-key.ensures.put.lies, none_waits c.put_out-key.result);
}
