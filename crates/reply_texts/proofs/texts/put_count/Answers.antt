use Rattle.lore_base.proofs.PutLaws.{Breaks-early, Puts-broken, Puts-then}
use Rattle.reply_texts.proofs.texts.put_count.Goals as goal

pub returns-in_err-put : goal.returns-in_err-put
returns-in_err-put g c =
    Puts-broken g.O.Out.is_memory c.from_residual.result c.from_residual.ensures.1 (Breaks-early (g.I.Integer.text c.args.number) c.in_err-put.ensures)

pub returns : goal.returns
returns g c = Puts-then g.O.Out.is_memory _ (g.I.Integer.text c.args.number) c.put_number.result c.in_ok-put.ensures c.put_number.ensures
