use Rattle.std.proofs.Common.{[], ◌++◌, ap, List, ℕ}
use Rattle.std.specs.Prelude.{codes, unwrap_or, slice_get}
use Rattle.lore_base.specs.Printed.{label_text}
use Rattle.lore_base.proofs.PutLaws.{Breaks-early, Puts-broken, Puts-same, Puts-then}
use Rattle.reply_texts.proofs.texts.put_step.Goals as goal

pub returns-in_err-put : goal.returns-in_err-put
returns-in_err-put g c =
    let text = label_text (unwrap_or (slice_get c.args.labels.now c.args.label.0) []) in
    Puts-broken g.O.Out.is_memory c.from_residual.result c.from_residual.ensures.1 (Breaks-early text c.in_err-put.ensures)

pub returns : goal.returns
returns g c =
    let text = label_text c.text_of_label.result.now in
    let step = ap (λ (label : List ℕ). codes "." ++ label_text label) c.text_of_label.ensures in
    Puts-same g.O.Out.is_memory _ _ _ _ c.print_label.result step
    (Puts-then g.O.Out.is_memory _ text c.print_label.result c.in_ok-put.ensures c.print_label.ensures)
