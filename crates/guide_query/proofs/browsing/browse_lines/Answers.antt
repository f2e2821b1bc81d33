use Rattle.guide_query.specs.inside.PathNodes.{IsReadable}
use Rattle.guide_query.proofs.PathLineLaws.{browse_is}
use Rattle.guide_query.proofs.browsing.browse_lines.Goals as goal

pub returns : goal.returns
returns c = λ names edges is distinct.
    let guide = c.args.guide.now in
    let labels = c.args.labels.now in
    let path = c.args.path.now in
    let readable : IsReadable guide labels names edges = record { labelled = is; distinct = distinct } in
    browse_is guide labels names edges readable path.start path.labels c.node_of-node.result
    (c.node_of-node.ensures names edges readable) c.set_at.result.now c.row_at-row.result.now
    c.in_ok-at_line.field-0 c.in_ok-labels_line.field-0 c.in_ok-lines.lines c.push.new.self c.push_edges.new.lines
    c.push-2.new.self
    c.set_at.ensures c.row_at-row.ensures c.in_ok-at_line.ensures c.in_ok-labels_line.ensures c.in_ok-lines.ensures
    c.in_ok-push.ensures.ok c.in_ok-push_edges.ensures c.in_ok-push-2.ensures.ok
