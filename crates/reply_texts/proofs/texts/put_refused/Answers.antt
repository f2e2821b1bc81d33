use Rattle.std.proofs.Common.{ℕ, ◌++◌, ap, ◌∙◌}
use Rattle.std.specs.Prelude.{codes, decimal}
use Rattle.lore_base.specs.Refusals.{text_of}
use Rattle.lore_base.proofs.PutLaws.{Breaks-early, Breaks-late, Breaks-same, Puts-broken, Puts-then, Takes-same, Takes-then}
use Rattle.reply_texts.proofs.texts.put_refused.Goals as goal

pub returns-in_err-put_count : goal.returns-in_err-put_count
returns-in_err-put_count g c =
    let number = ap (λ (n : ℕ). codes "refused " ++ decimal n) c.number.ensures in
    Puts-broken g.O.Out.is_memory c.from_residual.result c.from_residual.ensures.1
    (Breaks-early (codes "\n") (Breaks-early (text_of c.args.refusal) (Breaks-early (codes " ") (Breaks-same number c.in_err-put_count.ensures))))

pub returns-in_err-put : goal.returns-in_err-put
returns-in_err-put g c =
    let number = ap (λ (n : ℕ). codes "refused " ++ decimal n) c.number.ensures in
    Puts-broken g.O.Out.is_memory c.from_residual-in_err-put.result c.from_residual-in_err-put.ensures.1
    (Breaks-early (codes "\n") (Breaks-early (text_of c.args.refusal)
    (Breaks-late (Takes-same number c.in_ok-put_count.ensures) c.in_err-put.ensures)))

pub returns-in_err-put-2 : goal.returns-in_err-put-2
returns-in_err-put-2 g c =
    let number = ap (λ (n : ℕ). codes "refused " ++ decimal n) c.number.ensures in
    let text = c.as_bytes.ensures.value ∙ c.text.ensures in
    Puts-broken g.O.Out.is_memory c.from_residual-in_err-put-2.result c.from_residual-in_err-put-2.ensures.1
    (Breaks-early (codes "\n") (Breaks-late (Takes-then (Takes-same number c.in_ok-put_count.ensures) c.in_ok-put.ensures)
    (Breaks-same text c.in_err-put-2.ensures)))

pub returns : goal.returns
returns g c =
    let number = ap (λ (n : ℕ). codes "refused " ++ decimal n) c.number.ensures in
    let text = c.as_bytes.ensures.value ∙ c.text.ensures in
    Puts-then g.O.Out.is_memory _ (codes "\n") c.put-3.result
    (Takes-then (Takes-then (Takes-same number c.in_ok-put_count.ensures) c.in_ok-put.ensures) (Takes-same text c.in_ok-put-2.ensures)) c.put-3.ensures
