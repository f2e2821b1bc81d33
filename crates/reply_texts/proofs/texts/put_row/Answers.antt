use Rattle.std.specs.Prelude.{codes}
use Rattle.lore_base.proofs.PutLaws.{Breaks-early, Puts-broken, Puts-then}
use Rattle.reply_texts.proofs.texts.put_row.Goals as goal

pub returns-in_err-put_cells : goal.returns-in_err-put_cells
returns-in_err-put_cells g c =
    Puts-broken g.O.Out.is_memory c.from_residual.result c.from_residual.ensures.1 (Breaks-early (codes "\n") c.in_err-put_cells.ensures)

pub returns : goal.returns
returns g c = Puts-then g.O.Out.is_memory _ (codes "\n") c.put.result c.in_ok-put_cells.ensures c.put.ensures
