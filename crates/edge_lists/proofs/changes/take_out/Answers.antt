use Rattle.std.proofs.Common.{[]}
use Rattle.edge_lists.proofs.ChangeLaws.{contains-from, none_waits, half_taken, take_out_all, live-same}
use Rattle.edge_lists.proofs.changes.take_out.Goals as goal

pub part-requires-clause-place : goal.part-requires-clause-place
part-requires-clause-place c = contains-from c.args.records.now [] _ _ _ (c.requires.out.back c.args.key c.args.edge.now (c.requires.lies, none_waits c.args.key))

pub part-requires-clause-next : goal.part-requires-clause-next
part-requires-clause-next c = contains-from c.args.records.now [] _ _ _ (c.requires.out.ahead c.args.key c.args.edge.now (c.requires.lies, none_waits c.args.key))

pub part-requires-2-clause-live : goal.part-requires-2-clause-live
part-requires-2-clause-live c = live-same c.args.objects.now c.part.new.objects c.part.ensures.objects c.args.edge.now.child c.requires.child

pub part-requires-2-clause-place : goal.part-requires-2-clause-place
part-requires-2-clause-place c =
    let half = half_taken c.args.objects.now c.part.new.objects c.args.records.now c.part.new.records c.args.key c.args.edge.now c.requires.out c.requires.entering c.requires.lies c.part.ensures in
    contains-from c.part.new.records [] _ _ _ (half.entering.back c.args.key c.args.edge.now (half.lies, none_waits c.args.key))

pub part-requires-2-clause-next : goal.part-requires-2-clause-next
part-requires-2-clause-next c =
    let half = half_taken c.args.objects.now c.part.new.objects c.args.records.now c.part.new.records c.args.key c.args.edge.now c.requires.out c.requires.entering c.requires.lies c.part.ensures in
    contains-from c.part.new.records [] _ _ _ (half.entering.ahead c.args.key c.args.edge.now (half.lies, none_waits c.args.key))

pub returns : goal.returns
returns c =
    let half = half_taken c.args.objects.now c.part.new.objects c.args.records.now c.part.new.records c.args.key c.args.edge.now c.requires.out c.requires.entering c.requires.lies c.part.ensures in
    take_out_all c.args.objects.now c.part.new.objects c.part-2.new.objects c.args.records.now c.part.new.records c.part-2.new.records c.remove.new.self c.args.key c.args.edge.now
    half c.part.ensures c.part-2.ensures c.remove.ensures.updates c.remove.ensures.len c.remove.ensures.capacity
