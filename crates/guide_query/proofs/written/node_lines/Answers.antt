use Rattle.guide_query.proofs.WrittenLaws.{written-more}
use Rattle.guide_query.proofs.written.node_lines.Goals as goal

pub nodes-preserved : goal.nodes-preserved
nodes-preserved c = record {
  written =
      written-more c.args.guide.now c.args.labels.now c.args.origins.now c.nodes.place c.nodes.lines c.push.new.self
      c.as_slice.result.now c.in_ok-line.line c.origin_at-origin.result c.size_at-size.result c.nodes.invariant.written
      c.as_slice.ensures
      c.origin_at-origin.ensures c.size_at-size.ensures c.in_ok-line.ensures c.in_ok-push.ensures.ok;
}
