use Rattle.std.proofs.Common.{◌≡◌, false, ◌-◌, ◌≤◌}
use Rattle.lore_base.specs.declared.limits.TheConstants.{SCRIPT_BYTES}
use Rattle.lore_run.specs.Endings.{outside}
use Rattle.lore_run.specs.inside.Turns.{standing, RunsSoFar}
use Rattle.lore_run.proofs.run.run_pieces.Given as goal

abbrev pub decreases-pieces : goal.decreases-pieces
decreases-pieces g l = SCRIPT_BYTES - l.taken

abbrev pub invariant-pieces : goal.invariant-pieces
invariant-pieces g l = record {
  whole : l.reader.whole ≡ false;
  failed : l.reader.failed ≡ false;
  so_far : RunsSoFar (outside (g.S.Source.left l.fn.source) (g.K.Sink.written l.fn.sink)) l.fn.steps l.taken (g.S.Source.left l.source)
      (standing l.reader.held l.tally (g.K.Sink.written l.sink) l.session.state l.steps);
  fewer : l.tally.refused ≤ l.tally.done;
  source_faults : g.S.Source.faults l.source ≡ g.S.Source.faults l.fn.source;
  sink_faults : g.K.Sink.faults l.sink ≡ g.K.Sink.faults l.fn.sink;
}
