use Rattle.std.proofs.Common.{◌+◌, drop}
use Rattle.std.specs.List.{flat_map}
use Rattle.reply_texts.specs.Texts.{step_text}
use Rattle.lore_base.proofs.PutLaws.{Breaks-early, Breaks-late, Breaks-same, Puts-broken, Takes-same, Takes-then}
use Rattle.oem_atom.proofs.RunLaws.{printed_around, printed_next}
use Rattle.reply_texts.proofs.texts.put_steps.Goals as goal

pub returns-in_err-put_step : goal.returns-in_err-put_step
returns-in_err-put_step g c =
    let step = step_text c.args.labels.now in
    let parts = printed_around step c.args.word.now c.steps.label-index (record { 0 = 0 }) c.steps-test.true in
    Puts-broken g.O.Out.is_memory c.from_residual.result c.from_residual.ensures.1
    (Breaks-same parts (Breaks-early (flat_map step (drop (c.steps.label-index + 1) c.args.word.now))
    (Breaks-late c.steps.invariant c.in_err-put_step.ensures)))

pub steps-preserved : goal.steps-preserved
steps-preserved g c =
    let step = step_text c.args.labels.now in
    let parts = printed_next step c.args.word.now c.steps.label-index (record { 0 = 0 }) c.steps-test.true in
    Takes-same parts (Takes-then c.steps.invariant c.in_ok-put_step.ensures)
