use Rattle.std.proofs.Common.{◌∙◌}
use Rattle.std.specs.Prelude.{codes}
use Rattle.lore_base.proofs.PutLaws.{Breaks-early, Breaks-late, Breaks-same, Puts-broken, Puts-then, Takes-same, Takes-then}
use Rattle.reply_texts.specs.Texts.{kind_text, given_text}
use Rattle.reply_texts.proofs.texts.put_plan.Goals as goal

pub returns-in_err-put : goal.returns-in_err-put
returns-in_err-put g c =
    Puts-broken g.O.Out.is_memory c.from_residual.result c.from_residual.ensures.1
    (Breaks-early (codes "\n") (Breaks-early (given_text c.args.found) (Breaks-early (given_text c.args.candidates)
    (Breaks-early (kind_text c.args.kind) c.in_err-put.ensures))))

pub returns-in_err-put-2 : goal.returns-in_err-put-2
returns-in_err-put-2 g c =
    let text = c.as_bytes.ensures.value ∙ c.text_of.ensures in
    Puts-broken g.O.Out.is_memory c.from_residual-in_err-put-2.result c.from_residual-in_err-put-2.ensures.1
    (Breaks-early (codes "\n") (Breaks-early (given_text c.args.found) (Breaks-early (given_text c.args.candidates)
    (Breaks-late c.in_ok-put.ensures (Breaks-same text c.in_err-put-2.ensures)))))

pub returns-in_err-put_given : goal.returns-in_err-put_given
returns-in_err-put_given g c =
    let text = c.as_bytes.ensures.value ∙ c.text_of.ensures in
    let front = Takes-then c.in_ok-put.ensures (Takes-same text c.in_ok-put-2.ensures) in
    Puts-broken g.O.Out.is_memory c.from_residual-in_err-put_given.result c.from_residual-in_err-put_given.ensures.1
    (Breaks-early (codes "\n") (Breaks-early (given_text c.args.found) (Breaks-late front c.in_err-put_given.ensures)))

pub returns-in_err-put_given-2 : goal.returns-in_err-put_given-2
returns-in_err-put_given-2 g c =
    let text = c.as_bytes.ensures.value ∙ c.text_of.ensures in
    let front = Takes-then c.in_ok-put.ensures (Takes-same text c.in_ok-put-2.ensures) in
    Puts-broken g.O.Out.is_memory c.from_residual-in_err-put_given-2.result c.from_residual-in_err-put_given-2.ensures.1
    (Breaks-early (codes "\n") (Breaks-late (Takes-then front c.in_ok-put_given.ensures) c.in_err-put_given-2.ensures))

pub returns : goal.returns
returns g c =
    let text = c.as_bytes.ensures.value ∙ c.text_of.ensures in
    let front = Takes-then c.in_ok-put.ensures (Takes-same text c.in_ok-put-2.ensures) in
    Puts-then g.O.Out.is_memory _ (codes "\n") c.put-3.result
    (Takes-then (Takes-then front c.in_ok-put_given.ensures) c.in_ok-put_given-2.ensures) c.put-3.ensures
