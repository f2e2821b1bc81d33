use Rattle.std.proofs.Common.{length, List, subst}
use Rattle.guide_query.specs.Types.{Origin}
use Rattle.guide_query.specs.inside.Written.{AreWritten}
use Rattle.guide_query.proofs.LineLaws.{lines-are}
use Rattle.guide_query.proofs.lines.guide_lines.Goals as goal

pub returns : goal.returns
returns c = λ edges is.
    let guide = c.args.guide.now in
    let labels = c.args.labels.now in
    let lines = c.in_ok-lines.lines in
    let written : AreWritten guide labels c.in_ok-origins.origins.items (length guide.nodes) lines =
    subst (λ (from : List Origin). AreWritten guide labels from (length guide.nodes) lines)
    c.as_slice.ensures.value c.in_ok-lines.ensures in
    lines-are guide labels c.args.names.now edges is lines c.in_ok-origins.origins.items c.in_ok-origins.ensures
    written c.push.new.self c.in_ok-last_line.field-0 c.len.result c.in_ok-last_line.ensures c.len.ensures
    c.in_ok-push.ensures.ok
