use Rattle.guide_query.specs.inside.Written.{AreWritten}
use Rattle.guide_query.proofs.written.node_lines.Given as goal

abbrev pub invariant-nodes : goal.invariant-nodes
invariant-nodes l = record {
  written : AreWritten l.guide l.labels l.origins l.place l.lines;
}
