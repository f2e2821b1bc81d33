use Rattle.std.proofs.Common.{◌<◌, ◌∙◌, [], length, ap, arith}
use Rattle.std.proofs.lemmas.Option.{unwrap_or-slice_get}
use Rattle.dump_text.specs.Dumps.{label_line}
use Rattle.dump_text.proofs.LineLaws.{lines_more}
use Rattle.dump_text.proofs.writing.put_labels.Goals as goal

pub labels-preserved : goal.labels-preserved
labels-preserved c =
    let labels = c.args.labels.now in
    let place = c.labels.place in
    let count = c.len-place-end.ensures.count in
    let inside = c.labels-test.true in
    let low : place < length labels = omega (arith, count, inside) in
    let is = ap label_line (c.text_in.ensures ∙ unwrap_or-slice_get labels place []) in
    lines_more label_line c.args.dump.now c.labels.dump c.put_label_line.new.dump labels place []
    (label_line c.text_in.result.now) low is c.in_ok-put_label_line.ensures c.labels.invariant
