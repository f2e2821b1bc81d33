use Rattle.std.proofs.Common.{◌+◌, drop, ap, ◌∙◌}
use Rattle.std.specs.List.{flat_map}
use Rattle.reply_texts.specs.Texts.{row_line}
use Rattle.lore_base.proofs.PutLaws.{Breaks-early, Breaks-late, Breaks-same, Puts-broken, Takes-same, Takes-then}
use Rattle.oem_atom.proofs.RunLaws.{printed_around, printed_next}
use Rattle.reply_texts.proofs.texts.put_row_lines.Goals as goal

pub returns-in_err-put_row : goal.returns-in_err-put_row
returns-in_err-put_row g c =
    let row = row_line c.args.labels.now (g.V.ValueOf.objects c.args.values.now) in
    let item = ap row (c.as_slice.ensures ∙ c.row-item.is) in
    let parts = printed_around row c.args.rows.now c.rows.row-index c.row-item.result c.rows-test.true in
    Puts-broken g.O.Out.is_memory c.from_residual.result c.from_residual.ensures.1
    (Breaks-same parts (Breaks-early (flat_map row (drop (c.rows.row-index + 1) c.args.rows.now))
    (Breaks-late c.rows.invariant (Breaks-same item c.in_err-put_row.ensures))))

pub rows-preserved : goal.rows-preserved
rows-preserved g c =
    let row = row_line c.args.labels.now (g.V.ValueOf.objects c.args.values.now) in
    let item = ap row (c.as_slice.ensures ∙ c.row-item.is) in
    let parts = printed_next row c.args.rows.now c.rows.row-index c.row-item.result c.rows-test.true in
    Takes-same parts (Takes-then c.rows.invariant (Takes-same item c.in_ok-put_row.ensures))
