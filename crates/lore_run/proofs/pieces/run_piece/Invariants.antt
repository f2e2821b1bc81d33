use Rattle.std.proofs.Common.{◌≡◌, false, ◌-◌, ◌≤◌, length, take}
use Rattle.lore_run.specs.inside.Turns.{standing, IsUnended, Advances}
use Rattle.lore_run.proofs.pieces.run_piece.Given as goal

abbrev pub decreases-chunks : goal.decreases-chunks
decreases-chunks g l = length l.piece - l.at

abbrev pub invariant-chunks : goal.invariant-chunks
invariant-chunks g l = record {
  within : l.at ≤ length l.piece;
  whole : l.reader.whole ≡ false;
  failed : l.reader.failed ≡ false;
  held : IsUnended l.reader.held;
  advanced : Advances (standing l.fn.reader.held l.fn.tally (g.K.Sink.written l.fn.sink) l.fn.session.state l.fn.steps) (take l.at l.piece)
      (standing l.reader.held l.tally (g.K.Sink.written l.sink) l.session.state l.steps);
  fewer : l.tally.refused ≤ l.tally.done;
  faults : g.K.Sink.faults l.sink ≡ g.K.Sink.faults l.fn.sink;
}
