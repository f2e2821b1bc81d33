use Rattle.std.proofs.Common.{length, ◌∙◌}
use Rattle.std.proofs.Math.Nat.{min_comm}
use Rattle.guide_query.specs.inside.PathNodes.{IsReadable}
use Rattle.guide_query.proofs.PathLineLaws.{sample_is}
use Rattle.guide_query.proofs.samples.sample_lines.Goals as goal

pub returns : goal.returns
returns g c = λ names edges is distinct.
    let guide = c.args.guide.now in
    let labels = c.args.labels.now in
    let path = c.args.path.now in
    let readable : IsReadable guide labels names edges = record { labelled = is; distinct = distinct } in
    sample_is guide labels names edges readable path.start path.labels c.node_of.result
    (c.node_of.ensures names edges readable) (g.V.ValueOf.objects c.args.values.now) c.set_at-set.result.now
    c.args.count c.min-shown.result c.in_ok-lines.lines c.in_ok-sample_line.field-0 c.push.new.self
    c.set_at-set.ensures (c.min-shown.ensures ∙ min_comm (length c.set_at-set.result.now) c.args.count)
    c.in_ok-lines.ensures c.in_ok-sample_line.ensures c.in_ok-push.ensures.ok
