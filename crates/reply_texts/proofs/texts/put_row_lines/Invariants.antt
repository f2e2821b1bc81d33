use Rattle.std.proofs.Common.{take}
use Rattle.std.specs.List.{flat_map}
use Rattle.reply_texts.specs.Texts.{row_line}
use Rattle.lore_base.specs.Pieces.{Takes}
use Rattle.reply_texts.proofs.texts.put_row_lines.Given as goal

abbrev pub invariant-rows : goal.invariant-rows
invariant-rows g l = Takes (g.O.Out.state l.fn.out)
    (flat_map (row_line l.labels (g.V.ValueOf.objects l.values)) (take l.row-index l.rows))
    (g.O.Out.state l.out)
