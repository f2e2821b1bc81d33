use Rattle.std.proofs.Common.{length, arith}
use Rattle.updates.specs.Types.{NEXT_NUMBER}
use Rattle.updates.specs.Effects.{targets}
use Rattle.updates.specs.inside.Stamps.{stamped_objects}
use Rattle.updates.proofs.LoopLaws.{objects_more, room_more}
use Rattle.updates.proofs.stamps.copied_objects.Goals as goal

pub rows-preserved : goal.rows-preserved
rows-preserved c =
    let rows = c.args.rows.now in
    let values = c.args.layout.now.values in
    let left = room_more rows c.rows._row-index c.rows.base (length values) NEXT_NUMBER c.rows-test.true c.rows.invariant.room in
    record {
      made = objects_more c.rows.objects c.put_objects.new.objects (stamped_objects c.args.next values (targets rows))
          c.rows.base c.len-size.result values rows c.rows._row-index c.rows-test.true c.len-size.ensures.count
          c.in_ok-put_objects.ensures c.rows.invariant.made;
      room = omega (arith, left, c.len-size.ensures.count);
    }
