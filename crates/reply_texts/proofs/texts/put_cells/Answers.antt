use Rattle.std.proofs.Common.{List, ◌++◌, sym, ap}
use Rattle.std.specs.Prelude.{codes}
use Rattle.std.specs.List.{flat_map, join_by}
use Rattle.reply_texts.specs.Types.{Cell}
use Rattle.reply_texts.specs.Texts.{cell_text}
use Rattle.lore_base.proofs.PutLaws.{Breaks-early, Breaks-same, Puts-broken, Puts-same, Puts-then}
use Rattle.reply_texts.proofs.texts.put_cells.Goals as goal

pub returns-in_err-put_cell : goal.returns-in_err-put_cell
returns-in_err-put_cell g c =
    let cell = cell_text c.args.labels.now (g.V.ValueOf.objects c.args.values.now) in
    let whole = ap (λ (cells : List Cell). join_by cell (codes " | ") cells) (sym c.in-Some.ensures.cases.0) in
    Puts-broken g.O.Out.is_memory c.from_residual.result c.from_residual.ensures.1
    (Breaks-same whole (Breaks-early (flat_map (λ other. codes " | " ++ cell other) c.in-Some.others.now) c.in_err-put_cell.ensures))

pub returns : goal.returns
returns g c =
    let cell = cell_text c.args.labels.now (g.V.ValueOf.objects c.args.values.now) in
    let whole = ap (λ (cells : List Cell). join_by cell (codes " | ") cells) (sym c.in-Some.ensures.cases.0) in
    Puts-same g.O.Out.is_memory _ _ _ _ c.put_other_cells.result whole
    (Puts-then g.O.Out.is_memory _ (flat_map (λ other. codes " | " ++ cell other) c.in-Some.others.now) c.put_other_cells.result c.in_ok-put_cell.ensures c.put_other_cells.ensures)
