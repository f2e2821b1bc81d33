use Rattle.std.proofs.Common.{length, sym}
use Rattle.std.specs.Prelude.{codes, decimal}
use Rattle.std.specs.List.{flat_map}
use Rattle.std.proofs.lemmas.List.{append_assoc}
use Rattle.reply_texts.specs.Texts.{row_line}
use Rattle.lore_base.proofs.PutLaws.{Breaks-early, Breaks-late, Breaks-same, Puts-broken, Puts-then, Takes-same, Takes-then}
use Rattle.reply_texts.proofs.texts.put_rows.Goals as goal

pub returns-in_err-put_row_lines : goal.returns-in_err-put_row_lines
returns-in_err-put_row_lines g c =
    Puts-broken g.O.Out.is_memory c.from_residual.result c.from_residual.ensures.1
    (Breaks-early (codes "\n") (Breaks-early (decimal (length c.args.rows.now)) (Breaks-early (codes "rows ") c.in_err-put_row_lines.ensures)))

pub returns-in_err-put_count : goal.returns-in_err-put_count
returns-in_err-put_count g c =
    let lines = flat_map (row_line c.args.labels.now (g.V.ValueOf.objects c.args.values.now)) c.args.rows.now in
    let parts = sym (append_assoc lines (codes "rows ") (decimal (length c.args.rows.now))) in
    Puts-broken g.O.Out.is_memory c.from_residual-in_err-put_count.result c.from_residual-in_err-put_count.ensures.1
    (Breaks-early (codes "\n") (Breaks-same parts (Breaks-late c.in_ok-put_row_lines.ensures c.in_err-put_count.ensures)))

pub returns : goal.returns
returns g c =
    let lines = flat_map (row_line c.args.labels.now (g.V.ValueOf.objects c.args.values.now)) c.args.rows.now in
    let parts = sym (append_assoc lines (codes "rows ") (decimal (length c.args.rows.now))) in
    Puts-then g.O.Out.is_memory _ (codes "\n") c.put.result (Takes-same parts (Takes-then c.in_ok-put_row_lines.ensures c.in_ok-put_count.ensures)) c.put.ensures
