use Rattle.std.proofs.Common.{◌≤◌, ◌-◌, length, take}
use Rattle.lore_base.specs.Pieces.{Takes}
use Rattle.reply_texts.specs.inside.Passing.{passing}
use Rattle.reply_texts.proofs.reply_writer.ReplyWriterOut.put.Given as goal

abbrev pub invariant-parts : goal.invariant-parts
invariant-parts g l = record {
  within : l.done ≤ length l.piece;
  taken : Takes (passing l.fn.self.sink.ghost_name (g.K.Sink.written l.fn.self.sink.now) l.fn.self.buffer (g.K.Sink.faults l.fn.self.sink.now)) (take l.done l.piece)
      (passing l.self.sink.ghost_name (g.K.Sink.written l.self.sink.now) l.self.buffer (g.K.Sink.faults l.self.sink.now));
}

abbrev pub decreases-parts : goal.decreases-parts
decreases-parts g l = length l.piece - l.done
